use Rattle.std.proofs.Common.{◌+◌, subst, sym, arith}
use Rattle.std.specs.Option.{option_copied}
use Rattle.polars_arrays_bytes.specs.OffsetStrings.{offset_strings}
use Rattle.schema_columns.specs.Columns.{IsSchemaOf}
use Rattle.schema_columns.specs.Present.{cells_of}
use Rattle.schema_run.proofs.SchemaLemmas.{AreFirst, all_first, one_more}
use Rattle.schema_run.proofs.read.schemas_of.Goals as goal

pub loop-column-preserved : goal.loop-column-preserved
loop-column-preserved c =
    let names = offset_strings (λ x. x) c.args.names.now in
    let null = option_copied c.args.null in
    let named = subst (λ name. IsSchemaOf name null (cells_of c.loop-column.column c.args.table.now.rows) c.in_ok-schema.schema) c.bytes.ensures c.in_ok-schema.ensures in
    subst (λ l. AreFirst null names c.args.table.now.rows l (c.loop-column.column + 1)) (sym c.in_ok-push.ensures.items)
    (one_more null names c.args.table.now.rows c.loop-column.columns.items c.in_ok-schema.schema c.loop-column.column c.loop-column.invariant named)

pub returns : goal.returns
returns c =
    all_first (option_copied c.args.null) (offset_strings (λ x. x) c.args.names.now) c.args.table.now.rows c.loop-column.columns.items c.loop-column.column c.loop-column.invariant (omega arith)
