use Rattle.num_traits.specs.Laws.{bit_len}
use Rattle.polars_arrays_flat.specs.ArrayRows.{number_rows}
use Rattle.polars_compute_reductions.proofs.Reductions.{and_reduces, or_reduces, rows-numbers, xor_reduces}
use Rattle.arrow_columns.proofs.reducing.reduce_bits.Goals as goal

pub returns-in-And : goal.returns-in-And
returns-in-And g c =
    rw c.in-And.is
    (and_reduces g.T.Number.value g.T.Bounded.low (bit_len g.T.FixedWidth.width) (number_rows g.T.Number.value c.args.column.now) c.reduce.result
    (rows-numbers g.T.Number.value c.args.column.now.validity c.args.column.now.values) c.reduce.ensures)

pub returns-in-Or : goal.returns-in-Or
returns-in-Or g c =
    rw c.in-Or.is
    (or_reduces g.T.Number.value g.T.Bounded.low (bit_len g.T.FixedWidth.width) (number_rows g.T.Number.value c.args.column.now) c.reduce-in-Or.result
    (rows-numbers g.T.Number.value c.args.column.now.validity c.args.column.now.values) c.reduce-in-Or.ensures)

pub returns-in-Xor : goal.returns-in-Xor
returns-in-Xor g c =
    rw c.in-Xor.is
    (xor_reduces g.T.Number.value g.T.Bounded.low (bit_len g.T.FixedWidth.width) (number_rows g.T.Number.value c.args.column.now) c.reduce-in-Xor.result
    (rows-numbers g.T.Number.value c.args.column.now.validity c.args.column.now.values) c.reduce-in-Xor.ensures)
