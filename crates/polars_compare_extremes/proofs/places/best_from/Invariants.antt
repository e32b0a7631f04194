use Rattle.std.proofs.Common.{◌≡◌, [], get_or}
use Rattle.std.specs.Option.{option_copied}
use Rattle.polars_compare_extremes.specs.Places.{IsBestSlot, string_row}
use Rattle.polars_compare_extremes.proofs.places.best_from.Given as goal

abbrev pub invariant-loop-i : goal.invariant-loop-i
invariant-loop-i g l = record {
  best : IsBestSlot g.P.ByteComparison.rows (string_row (g.R.ByteRows.strings l.rows)) (option_copied l.present) l.i l.place;
  bytes : l.best ≡ get_or (g.R.ByteRows.strings l.rows) l.place [];
}
