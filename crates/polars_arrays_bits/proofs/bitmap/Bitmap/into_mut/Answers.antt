use Rattle.std.proofs.Common.{List, ℕ, ◌∙◌, length, ap, arith, sym}
use Rattle.std.proofs.lemmas.Result.{MatchResult-weaker}
use Rattle.polars_arrays_words.specs.Bits.{window}
use Rattle.polars_arrays_bits.proofs.Windows.{aligned, shifted}
use Rattle.polars_arrays_bits.proofs.bitmap.Bitmap.into_mut.Goals as goal

pub returns-then-at-ne0 : goal.returns-then-at-ne0
returns-then-at-ne0 c =
    let bitmap = c.self.inside in
    MatchResult-weaker c.from_source.result c.from_source.ensures
    (λ bits e. e ∙ shifted bitmap.at bitmap.len bitmap.words.items c.as_slice-words.result.now c.args.self c.as_slice-words.ensures c.self.view_is)
    (λ _ memory. memory)

pub from_vec-requires : goal.from_vec-requires
from_vec-requires c = omega (arith, c.self.invariant.1, c.if-at-ne0.false, ap length c.in-Ok.ensures.same, c.in-Ok.words.ok.0)

pub returns-in-Ok : goal.returns-in-Ok
returns-in-Ok c =
    let bitmap = c.self.inside in
    c.from_vec.ensures
    ∙ ap (λ (words : List ℕ). window 0 bitmap.len words) c.in-Ok.ensures.same
    ∙ ap (λ (at : ℕ). window at bitmap.len bitmap.words.items) (sym c.if-at-ne0.false)
    ∙ c.self.view_is

pub returns-in-Err : goal.returns-in-Err
returns-in-Err c =
    let bitmap = c.self.inside in
    MatchResult-weaker c.from_source-in-Err.result c.from_source-in-Err.ensures
    (λ bits e. e ∙ aligned bitmap.at bitmap.len bitmap.words.items c.as_slice-words-in-Err.result.now c.args.self c.if-at-ne0.false (c.as_slice-words-in-Err.ensures ∙ ap (λ b. b.items) c.in-Err.ensures.same) c.self.view_is)
    (λ _ memory. memory)
