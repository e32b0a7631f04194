use Rattle.std.proofs.Common.{ℕ, ◌<◌, []}
use Rattle.std.specs.Prelude.{slice_index_or}
use Rattle.std.specs.Str.{IsUtf8}
use Rattle.polars_arrays_views.specs.Parts.{contents}
use Rattle.polars_arrays_views.proofs.text_view.hold_texts.Given as goal

abbrev pub invariant-loop-i : goal.invariant-loop-i
invariant-loop-i l =
    (k : ℕ) → k < l.i → IsUtf8 (slice_index_or (contents l.buffers) k [])
