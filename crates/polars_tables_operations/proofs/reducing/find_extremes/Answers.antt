use Rattle.polars_tables_operations.proofs.Found.{extremes-are}
use Rattle.polars_tables_operations.proofs.reducing.find_extremes.Goals as goal

pub returns-clause-least : goal.returns-clause-least
returns-clause-least g c =
    let law = g.met.A.KernelArray in
    let both = extremes-are g.A.RowArray.value_row g.A.MinMaxKernel.scalar_row law.extreme_scalar_law _ (g.A.MinMaxKernel.rows c.args.array.now) _ (law.extreme_rows_law c.args.array.now) c.min_max_ignore_nan_kernel.ensures in
    both.0

pub returns-clause-greatest : goal.returns-clause-greatest
returns-clause-greatest g c =
    let law = g.met.A.KernelArray in
    let both = extremes-are g.A.RowArray.value_row g.A.MinMaxKernel.scalar_row law.extreme_scalar_law _ (g.A.MinMaxKernel.rows c.args.array.now) _ (law.extreme_rows_law c.args.array.now) c.min_max_ignore_nan_kernel.ensures in
    both.1
