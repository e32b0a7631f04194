use Rattle.polars_arrays_flat.specs.Row.{Bytes}
use Rattle.polars_compare_leaves.specs.Order.{row_greater, row_less}
use Rattle.polars_compare_extremes.proofs.Listed.{view-listed}
use Rattle.polars_compare_extremes.proofs.extreme.text_view_extreme.Goals as goal

pub returns-in-Least : goal.returns-in-Least
returns-in-Least c =
    rw c.in-Least.is (view-listed row_less c.args.array.now c.validity-validity.ensures.bits c.min_ignore_nan_kernel.result (λ found. Bytes found.now) c.min_ignore_nan_kernel.ensures)

pub returns-in-Greatest : goal.returns-in-Greatest
returns-in-Greatest c =
    rw c.in-Greatest.is (view-listed row_greater c.args.array.now c.validity-validity.ensures.bits c.max_ignore_nan_kernel.result (λ found. Bytes found.now) c.max_ignore_nan_kernel.ensures)
