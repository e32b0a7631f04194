use Rattle.std.proofs.Common.{◌++◌, ℕ, List, take}
use Rattle.diff_tables.specs.Strings.{AreStrings}
use Rattle.json.specs.Value.{value_view}
use Rattle.json_paths.specs.Views.{paths_view}
use Rattle.document_rows.specs.Documents.{key_cells}
use Rattle.document_rows.proofs.cells.push_parts.Given as goal

abbrev pub invariant-loop-key : goal.invariant-loop-key
invariant-loop-key l = (all : List (List ℕ)) → AreStrings l.fn.cells all → AreStrings l.cells (all ++ key_cells (paths_view (take l.key l.keys)) (value_view l.value))
