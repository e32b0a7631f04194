use Rattle.std.proofs.Common.{sym, subst, ap, ◌∙◌, Err}
use Rattle.std.specs.Str.{IsUtf8}
use Rattle.json.specs.Strict.{HasUniqueKeys}
use Rattle.json_normal.specs.Narrow.{HasNarrowNumbers}
use Rattle.document_rows.specs.Tables.{line_at}
use Rattle.document_rows.proofs.DocumentLemmas.{has_value, row_of, tree_narrow, tree_read, tree_unique}
use Rattle.document_rows.proofs.document.document_of.Goals as goal

pub unreachable-requires : goal.unreachable-requires
unreachable-requires c =
    let row = row_of c.args.table.now c.requires.documents c.args.row c.requires.row in
    c.in_default.ensures.cases.0 (subst IsUtf8 (sym c.line_of.ensures) row.document.utf8)

pub returns-in-Ok-parse-clause-unique : goal.returns-in-Ok-parse-clause-unique
returns-in-Ok-parse-clause-unique c =
    let row = row_of c.args.table.now c.requires.documents c.args.row c.requires.row in
    let line = line_at c.args.table.now c.args.row in
    subst HasUniqueKeys (tree_read line c.in-Ok.text.now _ (c.in-Ok.ensures.cases.0 ∙ c.line_of.ensures) c.in-Ok-parse.ensures.ok) (tree_unique row.reading row.keys line row.document)

pub returns-in-Ok-parse-clause-narrow : goal.returns-in-Ok-parse-clause-narrow
returns-in-Ok-parse-clause-narrow c =
    let row = row_of c.args.table.now c.requires.documents c.args.row c.requires.row in
    let line = line_at c.args.table.now c.args.row in
    subst HasNarrowNumbers (tree_read line c.in-Ok.text.now _ (c.in-Ok.ensures.cases.0 ∙ c.line_of.ensures) c.in-Ok-parse.ensures.ok) (tree_narrow row.reading row.keys line row.document)

pub unreachable-requires-in-Err-Invalid : goal.unreachable-requires-in-Err-Invalid
unreachable-requires-in-Err-Invalid c =
    let row = row_of c.args.table.now c.requires.documents c.args.row c.requires.row in
    has_value row.reading row.keys (line_at c.args.table.now c.args.row) c.in-Ok.text.now row.document (c.in-Ok.ensures.cases.0 ∙ c.line_of.ensures)
    (c.parse.ensures.invalid (c.in-Err-Invalid.is ∙ ap Err c.in-Err-Invalid.field-0-is))
