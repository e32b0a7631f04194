use Rattle.std.proofs.Common.{take}
use Rattle.std.specs.List.{flat_map}
use Rattle.diff_numbers.specs.Rows.{comparable_row}
use Rattle.diff_tables.specs.Strings.{AreStrings}
use Rattle.diff_numbers.proofs.table.comparable_cells.Given as goal

abbrev pub invariant-loop-row : goal.invariant-loop-row
invariant-loop-row l = AreStrings l.cells (flat_map (comparable_row l.numeric) (take l.row l.table.rows))
