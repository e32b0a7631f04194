use Rattle.num_traits.specs.Laws.{bit_len}
use Rattle.polars_arrays_flat.specs.ArrayRows.{number_rows}
use Rattle.polars_compute_reductions.proofs.Reductions.{xor_reduces, rows-numbers}
use Rattle.polars_compute_reductions.proofs.bitwise.PrimitiveArrayBitwiseKernel.reduce_xor.Goals as goal

pub returns : goal.returns
returns g c =
    xor_reduces g.T.Number.value g.T.Bounded.low (bit_len g.T.FixedWidth.width) (number_rows g.T.Number.value c.args.self.now) c.reduce_rows.result
    (rows-numbers g.T.Number.value c.args.self.now.validity c.args.self.now.values) c.reduce_rows.ensures
