use Rattle.std.proofs.Common.{◌++◌, ℕ, List, [], get_or, map}
use Rattle.std.specs.List.{range_with_len}
use Rattle.polars_arrays_bytes.specs.OffsetStrings.{offset_strings}
use Rattle.diff_tables.specs.Strings.{AreStrings}
use Rattle.diff_tolerances.specs.Rows.{cell_at, row_at}
use Rattle.diff_tolerances.proofs.rows.push_row.Given as goal

abbrev pub invariant-loop-column : goal.invariant-loop-column
invariant-loop-column l = (all : List (List ℕ)) → AreStrings l.fn.cells all
    → AreStrings l.cells (all ++ map (cell_at l.tolerances (offset_strings (λ x. x) l.names) (row_at l.left.rows l.partner) (get_or l.right.rows l.row [])) (range_with_len 0 l.column))
