use Rattle.std.proofs.Common.{◌≡◌, ◌+◌, arith}
use Rattle.polars_compare_nested.proofs.MatchBits.{end_apart, match_behind}
use Rattle.polars_compare_nested.proofs.spans.matching_rows.Goals as goal

pub returns-then-few-count-clause-matching : goal.returns-then-few-count-clause-matching
returns-then-few-count-clause-matching g c =
    match_behind c.args.left.now c.args.right.now c.args.a c.args.b c.loop-done.done c.min-count.result c.matching_word-word.result c.leading_bits-few.result c.loop-done.invariant.1 c.matching_word-word.ensures c.leading_bits-few.ensures.within c.leading_bits-few.ensures.ones

pub returns-then-few-count-clause-longest : goal.returns-then-few-count-clause-longest
returns-then-few-count-clause-longest g c low =
    let few = c.leading_bits-few.result in
    let here : c.args.a + (c.loop-done.done + few) ≡ c.args.a + c.loop-done.done + few = omega arith in
    let there : c.args.b + (c.loop-done.done + few) ≡ c.args.b + c.loop-done.done + few = omega arith in
    rw (here, there) (end_apart c.args.left.now c.args.right.now (c.args.a + c.loop-done.done) (c.args.b + c.loop-done.done) c.min-count.result c.matching_word-word.result few c.matching_word-word.ensures c.if-few-count.true (c.leading_bits-few.ensures.end c.if-few-count.true))

pub loop-done-preserved : goal.loop-done-preserved
loop-done-preserved g c = (
  omega (arith, c.loop-done.invariant.0, c.leading_bits-few.ensures.within, c.min-count.ensures),
  match_behind c.args.left.now c.args.right.now c.args.a c.args.b c.loop-done.done c.min-count.result c.matching_word-word.result c.leading_bits-few.result c.loop-done.invariant.1 c.matching_word-word.ensures c.leading_bits-few.ensures.within c.leading_bits-few.ensures.ones,
)

pub returns : goal.returns
returns g c = record {
  within = omega arith;
  matching = λ k low. c.loop-done.invariant.1 k (omega (arith, low, c.loop-done-test.false));
  longest = λ low. absurd (omega (arith, low));
}
