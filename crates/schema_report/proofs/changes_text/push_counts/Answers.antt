use Rattle.schema_report.specs.ColumnChanges.{counts_line}
use Rattle.schema_report.proofs.Pieces.{piece}
use Rattle.schema_report.proofs.changes_text.push_counts.Goals as goal

pub returns : goal.returns
unfolding counts_line
returns c =
    let old = c.args.out.now.items in
    let two = piece old _ _ _ _ c.in_ok-push_decimal.ensures c.in_ok-extend_from_slice.ensures.items in
    let four = piece old _ _ _ _ (piece old _ _ _ _ two c.in_ok-push_decimal-2.ensures) c.in_ok-extend_from_slice-2.ensures.items in
    let six = piece old _ _ _ _ (piece old _ _ _ _ four c.in_ok-push_decimal-3.ensures) c.in_ok-extend_from_slice-3.ensures.items in
    piece old _ _ _ _ (piece old _ _ _ _ six c.in_ok-push_decimal-4.ensures) c.in_ok-extend_from_slice-4.ensures.items
