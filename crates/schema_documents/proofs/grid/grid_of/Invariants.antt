use Rattle.std.proofs.Common.{◌++◌, take}
use Rattle.std.specs.List.{flat_map}
use Rattle.diff_tables.specs.Strings.{AreStrings}
use Rattle.schema_documents.specs.Grid.{header, row_of}
use Rattle.schema_documents.proofs.grid.grid_of.Given as goal

abbrev pub invariant-loop-path : goal.invariant-loop-path
invariant-loop-path l = AreStrings l.cells (header ++ flat_map row_of (take l.path-index l.paths))
