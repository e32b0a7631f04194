use Rattle.std.proofs.Common.{take}
use Rattle.polars_arrays_bytes.specs.OffsetStrings.{offset_strings}
use Rattle.diff_run.proofs.names.names_at.Given as goal
use Rattle.diff_tables.specs.Keys.{cells_at}
use Rattle.diff_tables.specs.Strings.{AreStrings}

abbrev pub invariant-loop-column : goal.invariant-loop-column
invariant-loop-column l = AreStrings l.chosen (cells_at (take l.column-index l.columns) (offset_strings (λ x. x) l.fn.names))
