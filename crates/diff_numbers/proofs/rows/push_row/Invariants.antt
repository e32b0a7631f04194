use Rattle.std.proofs.Common.{◌++◌, ℕ, List, [], get_or, map}
use Rattle.std.specs.List.{range_with_len}
use Rattle.diff_numbers.specs.Rows.{comparable_at}
use Rattle.diff_tables.specs.Strings.{AreStrings}
use Rattle.diff_numbers.proofs.rows.push_row.Given as goal

abbrev pub invariant-loop-column : goal.invariant-loop-column
invariant-loop-column l = (all : List (List ℕ)) → AreStrings l.fn.cells all → AreStrings l.cells (all ++ map (comparable_at l.numeric (get_or l.table.rows l.row [])) (range_with_len 0 l.column))
