use Rattle.std.specs.List.{flat_map, range_with_len}
use Rattle.polars_arrays_bytes.specs.OffsetStrings.{offset_strings}
use Rattle.diff_tables.specs.Strings.{AreStrings}
use Rattle.diff_tolerances.specs.Rows.{row_beside}
use Rattle.diff_tolerances.proofs.table.tolerant_cells.Given as goal

abbrev pub invariant-loop-row : goal.invariant-loop-row
invariant-loop-row l = AreStrings l.cells (flat_map (row_beside l.tolerances (offset_strings (λ x. x) l.names) l.left.rows l.partners l.right.rows) (range_with_len 0 l.row))
