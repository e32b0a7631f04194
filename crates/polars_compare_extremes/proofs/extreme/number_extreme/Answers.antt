use Rattle.polars_arrays_flat.specs.Row.{Int}
use Rattle.polars_compare_leaves.specs.Order.{row_greater, row_less}
use Rattle.polars_compare_extremes.proofs.Listed.{number-listed}
use Rattle.polars_compare_extremes.proofs.extreme.number_extreme.Goals as goal

pub returns-in-Least : goal.returns-in-Least
returns-in-Least g c =
    rw c.in-Least.is (number-listed row_less g.T.Number.value c.args.array.now c.validity-validity.ensures.bits c.min_ignore_nan_kernel.result (λ found. Int (g.T.Number.value found)) c.min_ignore_nan_kernel.ensures)

pub returns-in-Greatest : goal.returns-in-Greatest
returns-in-Greatest g c =
    rw c.in-Greatest.is (number-listed row_greater g.T.Number.value c.args.array.now c.validity-validity.ensures.bits c.max_ignore_nan_kernel.result (λ found. Int (g.T.Number.value found)) c.max_ignore_nan_kernel.ensures)
