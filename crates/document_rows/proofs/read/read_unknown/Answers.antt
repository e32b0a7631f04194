use Rattle.std.proofs.Common.{◌∙◌, subst, sym}
use Rattle.std.proofs.lemmas.List.{length-map}
use Rattle.json_paths.specs.Views.{paths_view}
use Rattle.document_rows.specs.Numbers.{numbered_line, numbered_lines}
use Rattle.document_rows.specs.Tables.{AreDocumentsWith}
use Rattle.document_rows.proofs.read.read_unknown.Goals as goal

pub returns-clause-shape : goal.returns-clause-shape
returns-clause-shape g c =
    let all = c.in_ok-rows.ensures in
    let documents = c.in_ok-documents.documents in
    let kept = c.in_ok-documents.ensures c.args.reading all.lines all.held in
    record {
      all = numbered_lines all.lines documents.lines.items;
      table = kept.table;
      lines = sym (length-map documents.lines.items (numbered_line all.lines));
    }

pub returns-clause-documents : goal.returns-clause-documents
returns-clause-documents g c = λ text known.
    let all = c.in_ok-rows.ensures in
    let documents = c.in_ok-documents.documents in
    subst (λ lines. AreDocumentsWith c.args.reading (paths_view c.args.keys.now) lines documents.table documents.lines.items documents.skipped.items) (all.all text (c.in_ok-buffered.ensures ∙ known))
    (c.in_ok-documents.ensures c.args.reading all.lines all.held)
