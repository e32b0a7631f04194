use Rattle.std.proofs.Common.{◌<◌, ℕ, []}
use Rattle.std.specs.Prelude.{slice_index_or}
use Rattle.std.specs.Str.{IsUtf8}
use Rattle.polars_arrays_views.specs.Parts.{view_strings}
use Rattle.polars_arrays_views.proofs.text_view.first_not_text.Given as goal

abbrev pub invariant-loop-row : goal.invariant-loop-row
invariant-loop-row l =
    (k : ℕ) → k < l.row → IsUtf8 (slice_index_or (view_strings l.array) k [])
