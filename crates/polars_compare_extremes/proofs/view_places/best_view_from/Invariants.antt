use Rattle.std.specs.Option.{option_copied}
use Rattle.polars_arrays_views.specs.Parts.{view_strings}
use Rattle.polars_compare_extremes.specs.Places.{IsBestSlot, string_row}
use Rattle.polars_compare_extremes.proofs.view_places.best_view_from.Given as goal

abbrev pub invariant-loop-i : goal.invariant-loop-i
invariant-loop-i g l = IsBestSlot g.P.ByteComparison.rows (string_row (view_strings l.array)) (option_copied l.present) l.i l.place
