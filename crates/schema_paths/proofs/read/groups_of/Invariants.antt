use Rattle.std.proofs.Common.{Bool, ℕ, List, [], take}
use Rattle.document_rows.specs.Tables.{AreRowsOf}
use Rattle.schema_paths.specs.Documents.{AreGathered, whole}
use Rattle.schema_paths.proofs.read.groups_of.Given as goal

abbrev pub invariant-loop-row : goal.invariant-loop-row
invariant-loop-row l = (skip_bad : Bool) (lines : List (List ℕ)) → AreRowsOf (whole skip_bad) [] lines l.table → AreGathered (take l.row lines) l.groups
