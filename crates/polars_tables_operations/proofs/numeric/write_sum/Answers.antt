use Rattle.std.proofs.Common.{sym}
use Rattle.polars_tables_operations.proofs.numeric.write_sum.Goals as goal

pub returns : goal.returns
returns g c =
    let law = g.met.T.RowNumber in
    rw (law.least_law, law.width_law, sym c.wrapping_sum_arr.ensures) (rw (law.shown_law c.wrapping_sum_arr.result) at c.to_string.ensures.ok)
