use Rattle.std.proofs.Common.{bit_xor, false}
use Rattle.polars_arrays_words.specs.Logic.{xor}
use Rattle.num_traits.specs.Laws.{bit_len}
use Rattle.polars_compute_reductions.proofs.BitSteps.{joined-value}
use Rattle.polars_compute_reductions.specs.BitLaws.{xor_operator}
use Rattle.polars_compute_reductions.proofs.bit_operators.XorOperator.join.Goals as goal

pub returns : goal.returns
returns g c =
    joined-value g.T.Number.value g.T.FixedWidth.of_bits g.T.Number.wrap g.T.Bounded.low (bit_len g.T.FixedWidth.width) g.met.T.FixedWidth.of_bits_law g.met.T.WrappingNumber.wrapped_law
    bit_xor xor false xor_operator (g.T.FixedWidth.bits_of c.args.left) (g.T.FixedWidth.bits_of c.args.right) _ _ c.bitxor.result
    (g.met.T.FixedWidth.bits_of_law c.args.left c.law_fits.ensures) (g.met.T.FixedWidth.bits_of_law c.args.right c.law_fits-2.ensures)
    (g.met.T.PrimInt.bitxor_law c.args.left c.args.right c.bitxor.result c.bitxor.ensures)
