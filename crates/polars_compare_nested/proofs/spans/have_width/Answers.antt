use Rattle.std.proofs.Common.{◌≡◌, ◌+◌, ℕ, subst, arith}
use Rattle.polars_arrays_bytes.specs.OffsetStrings.{places}
use Rattle.polars_compare_nested.specs.Runs.{IsSpan}
use Rattle.polars_compare_nested.proofs.MatchBits.{length-width}
use Rattle.polars_compare_nested.proofs.OneWidth.{other_width, width_behind}
use Rattle.polars_compare_nested.proofs.spans.have_width.Goals as goal

pub invariant_of-lists : goal.invariant_of-lists
invariant_of-lists g c = record {
  within = omega (arith, c.requires.within, c.min-count.ensures, c.loop-done-test.true);
  good = λ i low.
      let place : c.args.a + (c.loop-done.done + i) ≡ c.args.a + c.loop-done.done + i = omega arith in
      subst (λ (k : ℕ). IsSpan (places g.O.Number.value c.args.offsets.now) k) place
      (c.requires.good (c.loop-done.done + i) (omega (arith, low, c.min-count.ensures, c.loop-done-test.true)));
  fits = omega (arith, c.requires.within, c.min-count.ensures, c.loop-done-test.true);
}

pub pack_few-requires-clause-within : goal.pack_few-requires-clause-within
pack_few-requires-clause-within g c =
    omega (arith, length-width (places g.O.Number.value c.args.offsets.now) (c.args.a + c.loop-done.done) c.min-count.result c.args.width)

pub loop-done-preserved : goal.loop-done-preserved
loop-done-preserved g c = (
  omega (arith, c.min-count.ensures, c.loop-done-test.true),
  width_behind (places g.O.Number.value c.args.offsets.now) c.args.a c.loop-done.done c.min-count.result c.args.width c.pack_few.result c.loop-done.invariant.1 c.pack_few.ensures
      (λ i low. c.leading_bits-alike.ensures.ones i (omega (arith, low, c.leading_bits-alike.ensures.within, c.if-alike-count.false))),
)

pub returns-then-alike-count : goal.returns-then-alike-count
returns-then-alike-count g c = (
  (λ none. cc),
  (λ have.
      absurd
      (other_width (places g.O.Number.value c.args.offsets.now) c.args.a c.args.rows c.loop-done.done c.min-count.result c.args.width c.pack_few.result c.leading_bits-alike.result
      (omega (arith, c.min-count.ensures, c.loop-done-test.true)) c.pack_few.ensures c.if-alike-count.true (c.leading_bits-alike.ensures.end c.if-alike-count.true) have)),
)
