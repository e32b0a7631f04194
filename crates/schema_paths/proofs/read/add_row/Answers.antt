use Rattle.std.proofs.Common.{map}
use Rattle.json.specs.Value.{value_view}
use Rattle.document_rows.specs.Tables.{line_at}
use Rattle.schema_paths.specs.Documents.{parts_in}
use Rattle.schema_paths.proofs.LineLemmas.{gathered_more}
use Rattle.schema_paths.proofs.read.add_row.Goals as goal

pub add_document-requires : goal.add_document-requires
add_document-requires c =
    let (lines, gathered) = c.requires.groups in
    (map parts_in lines, gathered.held)

pub returns : goal.returns
returns c = λ lines gathered.
    gathered_more lines (line_at c.args.table.now c.args.row) (value_view c.in_ok-document.document) c.args.groups.now c.add_document.new.self gathered c.in_ok-document.ensures.value c.in_ok-document.ensures.numbers
    c.in_ok-add_document.ensures
