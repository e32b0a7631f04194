use Rattle.std.proofs.Common.{◌+◌, ◌-◌, ◌/◌, ◌%◌, ◌^◌, List, ℕ, set, sym, ap, ◌∙◌, subst}
use Rattle.polars_arrays_words.specs.Bits.{IsPut}
use Rattle.polars_arrays_words.proofs.Appends.{is-put}
use Rattle.polars_arrays_words.proofs.write.put_word.Goals as goal

pub returns : goal.returns
returns c =
    let k : ℕ = c.args.p / 64 in
    let second : ℕ = c.args.word / 2 ^ 1 / 2 ^ (64 - 1 - c.args.p % 64) in
    let both = c.set_word-2.ensures ∙ ap (λ ws. set ws (k + 1) second) c.set_word.ensures in
    subst
    (λ (ws : List ℕ). IsPut c.args.words.now ws c.args.p c.args.word)
    (sym both)
    (is-put c.args.words.now c.args.p c.args.word c.word_or_zero.result c.put.result c.word_or_zero.ensures c.put.ensures.below c.put.ensures.above)
