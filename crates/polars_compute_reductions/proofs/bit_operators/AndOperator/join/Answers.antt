use Rattle.std.proofs.Common.{◌&&◌, bit_and, true}
use Rattle.num_traits.specs.Laws.{bit_len}
use Rattle.polars_compute_reductions.proofs.BitSteps.{joined-value}
use Rattle.polars_compute_reductions.specs.BitLaws.{and_operator}
use Rattle.polars_compute_reductions.proofs.bit_operators.AndOperator.join.Goals as goal

pub returns : goal.returns
returns g c =
    joined-value g.T.Number.value g.T.FixedWidth.of_bits g.T.Number.wrap g.T.Bounded.low (bit_len g.T.FixedWidth.width) g.met.T.FixedWidth.of_bits_law g.met.T.WrappingNumber.wrapped_law
    bit_and ◌&&◌ true and_operator (g.T.FixedWidth.bits_of c.args.left) (g.T.FixedWidth.bits_of c.args.right) _ _ c.bitand.result
    (g.met.T.FixedWidth.bits_of_law c.args.left c.law_fits.ensures) (g.met.T.FixedWidth.bits_of_law c.args.right c.law_fits-2.ensures)
    (g.met.T.PrimInt.bitand_law c.args.left c.args.right c.bitand.result c.bitand.ensures)
