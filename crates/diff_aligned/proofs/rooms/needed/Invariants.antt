use Rattle.std.proofs.Common.{◌≡◌, drop}
use Rattle.diff_aligned.specs.Rooms.{needed, no_rooms}
use Rattle.diff_aligned.specs.Rows.{rows_view}
use Rattle.diff_aligned.proofs.rooms.needed.Given as goal

abbrev pub invariant-loop-row : goal.invariant-loop-row
invariant-loop-row l = needed l.rooms (rows_view (drop l.row-index l.rows)) ≡ needed no_rooms (rows_view l.rows)
