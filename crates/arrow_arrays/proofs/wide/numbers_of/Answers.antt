use Rattle.std.proofs.Common.{◌+◌, ◌*◌, ◌/◌, ◌≤◌, ◌<◌, ◌++◌, ◌∷◌, [], length, take, sym, ap, subst, ◌∙◌, arith}
use Rattle.std.proofs.lemmas.List.{length-append}
use Rattle.arrow_parts.specs.Lent.{wide_numbers}
use Rattle.arrow_arrays.proofs.EndLemmas.{wide-all, wide-more}
use Rattle.arrow_arrays.proofs.wide.numbers_of.Goals as goal

pub loop-i-preserved : goal.loop-i-preserved
loop-i-preserved c =
    let low : 2 * c.loop-i.i + 1 < length c.args.words.now = omega (arith, c.loop-i-test.true) in (
      c.push_reserved.ensures.items ∙ ap (λ xs. xs ++ c.joined.result ∷ []) c.loop-i.invariant.0 ∙ ap (λ x. wide_numbers (take (2 * c.loop-i.i) c.args.words.now) ++ x ∷ []) c.joined.ensures ∙ sym (wide-more c.args.words.now c.loop-i.i low),
      ap length c.push_reserved.ensures.items ∙ length-append c.loop-i.all.items (c.joined.result ∷ []) ∙ ap (λ n. n + 1) c.loop-i.invariant.1,
      subst (λ n. length c.args.words.now / 2 ≤ n) (sym c.push_reserved.ensures.capacity) c.loop-i.invariant.2,
    )

pub returns-clause-numbers : goal.returns-clause-numbers
returns-clause-numbers c = c.loop-i.invariant.0 ∙ wide-all c.args.words.now c.loop-i.i (omega (arith, c.loop-i-test.false))
