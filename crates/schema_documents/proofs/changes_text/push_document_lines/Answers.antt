use Rattle.schema_report.proofs.Pieces.{piece}
use Rattle.schema_documents.proofs.changes_text.push_document_lines.Goals as goal

pub returns : goal.returns
returns c =
    let old = c.args.out.now.items in
    let paths = rw c.deref-2.ensures.value at (rw c.deref.ensures.value at c.in_ok-push_path_lines.ensures) in
    let left = rw c.deref-3.ensures.value at c.in_ok-push_skipped.ensures in
    let right = rw c.deref-4.ensures.value at c.in_ok-push_skipped-2.ensures in
    piece old _ _ _ _ (piece old _ _ _ _ paths left) right
