use Rattle.schema_report.proofs.Pieces.{piece, pieces}
use Rattle.schema_documents.specs.JsonLines.{name_members}
use Rattle.schema_documents.proofs.json_lines.push_name.Goals as goal

pub returns : goal.returns
unfolding name_members
returns c =
    let old = c.args.out.now.items in
    pieces old _ _ _ _ _ (piece old _ _ _ _ c.in_ok-extend_from_slice.ensures.items (rw c.deref.ensures.value at c.in_ok-push_string.ensures)) c.in_ok-push_number.ensures
