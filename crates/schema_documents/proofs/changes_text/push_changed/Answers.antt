use Rattle.schema_report.proofs.Pieces.{piece}
use Rattle.schema_documents.specs.Changes.{kinds_line}
use Rattle.schema_documents.proofs.changes_text.push_changed.Goals as goal

pub returns : goal.returns
unfolding kinds_line
returns c =
    let old = c.args.out.now.items in
    let two = piece old _ _ _ _ c.in_ok-extend_from_slice.ensures.items (rw c.deref.ensures.value at c.in_ok-push_plain_json.ensures) in
    let four = piece old _ _ _ _ (piece old _ _ _ _ two c.in_ok-extend_from_slice-2.ensures.items) c.in_ok-push_kinds.ensures in
    let six = piece old _ _ _ _ (piece old _ _ _ _ four c.in_ok-extend_from_slice-3.ensures.items) c.in_ok-push_kinds-2.ensures in
    piece old _ _ _ _ six c.in_ok-push.ensures.items
