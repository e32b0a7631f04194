use Rattle.std.proofs.Common.{◌∙◌, refl}
use Rattle.document_rows.specs.Lines.{lines_of}
use Rattle.document_rows.specs.Numbers.{numbered_lines}
use Rattle.schema_paths.specs.Documents.{whole}
use Rattle.schema_paths.proofs.LineLemmas.{lines_many}
use Rattle.schema_paths.proofs.read.read_document_schema.Goals as goal

pub table_paths-requires : goal.table_paths-requires
table_paths-requires g c = (c.args.skip_bad, c.in_ok-read.ensures.shape.all, c.in_ok-read.ensures.shape.table)

pub returns : goal.returns
returns g c = λ text rest.
    let read = c.in_ok-read.ensures.documents text rest in
    let lines = numbered_lines (lines_of text) c.in_ok-read.read.lines.items in
    record {
      numbers = c.in_ok-read.read.lines.items;
      numbered = read.numbered;
      some = c.in_ok-read.ensures.some;
      skip_bad_is = refl;
      schema = record {
        documents_are = c.count.ensures ∙ lines_many (whole c.args.skip_bad) c.in_ok-read.read.table lines read.table;
        paths = c.in_ok-paths.ensures c.args.skip_bad lines read.table;
      };
    }
