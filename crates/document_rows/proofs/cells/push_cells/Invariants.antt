use Rattle.std.proofs.Common.{◌++◌, ℕ, List, [], get_or, take}
use Rattle.diff_tables.specs.Strings.{AreStrings}
use Rattle.document_rows.proofs.cells.push_cells.Given as goal

abbrev pub invariant-loop-column : goal.invariant-loop-column
invariant-loop-column l = (all : List (List ℕ)) → AreStrings l.fn.cells all → AreStrings l.cells (all ++ take l.column (get_or l.table.rows l.row []))
