use Rattle.num_traits.specs.Laws.{bit_len}
use Rattle.polars_compute_reductions.proofs.Reductions.{or_reduces_two}
use Rattle.polars_compute_reductions.proofs.bitwise.PrimitiveArrayBitwiseKernel.bit_or.Goals as goal

pub returns : goal.returns
returns g c =
    or_reduces_two g.T.Bounded.low (bit_len g.T.FixedWidth.width) (g.T.Number.value c.args.lhs) (g.T.Number.value c.args.rhs) (g.T.Number.value c.join.result) c.join.ensures
