use Rattle.std.proofs.Common.{◌++◌, take}
use Rattle.std.specs.List.{flat_map}
use Rattle.diff_tables.specs.Strings.{AreStrings}
use Rattle.schema_report.specs.Grid.{header, row_of}
use Rattle.schema_report.proofs.grid.grid_of.Given as goal

abbrev pub invariant-loop-column : goal.invariant-loop-column
invariant-loop-column l = AreStrings l.cells (header ++ flat_map row_of (take l.column-index l.columns))
