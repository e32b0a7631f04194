use Rattle.std.specs.Option.{option_copied}
use Rattle.polars_arrays_bytes.specs.OffsetStrings.{offset_strings}
use Rattle.schema_run.proofs.SchemaLemmas.{AreFirst}
use Rattle.schema_run.proofs.read.schemas_of.Given as goal

abbrev pub invariant-loop-column : goal.invariant-loop-column
invariant-loop-column l = AreFirst (option_copied l.null) (offset_strings (λ x. x) l.names) l.table.rows l.columns.items l.column
