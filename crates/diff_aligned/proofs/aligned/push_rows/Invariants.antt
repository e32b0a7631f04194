use Rattle.std.proofs.Common.{◌≡◌, ◌++◌, drop}
use Rattle.std.specs.Prelude.{map}
use Rattle.diff_aligned.specs.Pieces.{lines_bytes, row_pieces}
use Rattle.diff_aligned.specs.Rows.{rows_view}
use Rattle.diff_aligned.proofs.aligned.push_rows.Given as goal

abbrev pub invariant-loop-row : goal.invariant-loop-row
invariant-loop-row l =
    l.out.items ++ lines_bytes l.sheet.colored (map (row_pieces l.rooms) (rows_view (drop l.row-index l.rows))) ≡ l.fn.out.items ++ lines_bytes l.sheet.colored (map (row_pieces l.rooms) (rows_view l.rows))
