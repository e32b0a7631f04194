use Rattle.std.proofs.Common.{◌<◌, ℕ, [], get_or}
use Rattle.polars_arrays_views.specs.Parts.{contents}
use Rattle.polars_arrays_views.specs.Views.{GoodView}
use Rattle.polars_arrays_views.proofs.binary_view.first_bad_view.Given as goal

abbrev pub invariant-loop-row : goal.invariant-loop-row
invariant-loop-row l = (k : ℕ) → k < l.row → GoodView (contents l.buffers) (get_or l.views k [])
