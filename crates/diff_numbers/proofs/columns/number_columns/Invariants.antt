use Rattle.std.proofs.Common.{◌≡◌, take}
use Rattle.polars_arrays_bytes.specs.OffsetStrings.{offset_strings}
use Rattle.diff_columns.specs.Names.{names_of}
use Rattle.diff_numbers.specs.Columns.{number_columns}
use Rattle.diff_numbers.proofs.columns.number_columns.Given as goal

abbrev pub invariant-loop-column : goal.invariant-loop-column
invariant-loop-column l = l.numeric.items ≡ number_columns (names_of l.texts) (take l.column (offset_strings (λ x. x) l.names))
