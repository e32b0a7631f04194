use Rattle.std.proofs.Common.{◌∙◌, ap, length}
use Rattle.std.proofs.lemmas.Result.{err_from_is_err_and}
use Rattle.std.specs.List.{range_with_len}
use Rattle.std.specs.Option.{option_copied}
use Rattle.polars_arrays_bytes.specs.OffsetStrings.{offset_strings}
use Rattle.schema_run.proofs.SchemaLemmas.{range_many, text_schema}
use Rattle.schema_run.proofs.read.read_schema.Goals as goal

pub returns-in_err-read : goal.returns-in_err-read
returns-in_err-read g c =
    let p = err_from_is_err_and c.from_residual-in_err-read.result c.from_residual-in_err-read.ensures.1 in
    rw (p.1, p.2) (λ text rest. c.in_err-read.ensures.table c.args.options text (c.in_ok-source.ensures.opened text rest))

pub schemas_of-requires : goal.schemas_of-requires
schemas_of-requires g c =
    let every = c.in_ok-all.ensures ∙ ap (range_with_len 0) c.count-many.ensures in
    c.in_ok-read.ensures.shape.width ∙ (ap length (c.deref.ensures.value ∙ every) ∙ range_many 0 _)

pub returns : goal.returns
returns g c = λ text rest.
    let opened = c.in_ok-source.ensures.opened text rest in
    let names = offset_strings (λ x. x) c.in_ok-names.names in
    let every = c.deref.ensures.value ∙ (c.in_ok-all.ensures ∙ ap (range_with_len 0) c.count-many.ensures) in
    text_schema c.args.options text (option_copied c.args.null) names _ _ c.in_ok-read.read _ every (λ records all. c.in_ok-names.ensures c.args.options text records opened all)
    (c.in_ok-read.ensures.table c.args.options text opened) c.in_ok-columns.ensures c.count-rows.ensures
