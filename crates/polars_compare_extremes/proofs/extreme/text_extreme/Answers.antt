use Rattle.polars_arrays_flat.specs.Row.{Bytes}
use Rattle.polars_compare_leaves.specs.Order.{row_greater, row_less}
use Rattle.polars_compare_extremes.proofs.Listed.{offset-listed}
use Rattle.polars_compare_extremes.proofs.extreme.text_extreme.Goals as goal

pub returns-in-Least : goal.returns-in-Least
returns-in-Least g c =
    rw c.in-Least.is (offset-listed row_less g.O.Number.value c.args.array.now c.validity-validity.ensures.bits c.min_ignore_nan_kernel.result (λ found. Bytes found.now) c.min_ignore_nan_kernel.ensures)

pub returns-in-Greatest : goal.returns-in-Greatest
returns-in-Greatest g c =
    rw c.in-Greatest.is (offset-listed row_greater g.O.Number.value c.args.array.now c.validity-validity.ensures.bits c.max_ignore_nan_kernel.result (λ found. Bytes found.now) c.max_ignore_nan_kernel.ensures)
