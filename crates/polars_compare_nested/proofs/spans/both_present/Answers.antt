use Rattle.polars_compare_nested.proofs.MatchBits.{both_bits}
use Rattle.polars_compare_nested.proofs.spans.both_present.Goals as goal

pub returns : goal.returns
returns c =
    both_bits c.args.left.now c.args.right.now c.args.a c.args.b c.args.n c.present_bits.result c.present_bits-2.result (rw c.validity.ensures.validity at c.present_bits.ensures) (rw c.validity-2.ensures.validity at c.present_bits-2.ensures)
