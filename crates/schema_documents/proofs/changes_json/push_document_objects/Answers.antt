use Rattle.std.proofs.Common.{◌≡◌, ◌++◌, length, arith, subst}
use Rattle.document_words.specs.Skipped.{skipped_members}
use Rattle.schema_report.proofs.Pieces.{piece}
use Rattle.schema_documents.proofs.changes_json.push_document_objects.Goals as goal

pub returns : goal.returns
returns c =
    let old = c.args.out.now.items in
    let before = c.push_path_objects.new.out.items in
    let after = c.push_skipped_members.new.out.items in
    let skips = c.args.left.now.skip_bad in
    let paths = rw c.deref-2.ensures.value at (rw c.deref.ensures.value at c.in_ok-push_path_objects.ensures) in
    let left : c.len.result ≡ length c.args.left.now.skipped.items = omega arith in
    let right : c.len-2.result ≡ length c.args.right.now.skipped.items = omega arith in
    let one = subst (λ n. after ≡ before ++ skipped_members skips n c.len-2.result) left c.in_ok-push_skipped_members.ensures in
    let both = subst (λ n. after ≡ before ++ skipped_members skips (length c.args.left.now.skipped.items) n) right one in
    piece old _ _ _ _ (piece old _ _ _ _ paths both) c.in_ok-extend_from_slice.ensures.items
