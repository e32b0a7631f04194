use Rattle.std.proofs.Common.{◌≡◌, [], get_or}
use Rattle.diff_report.specs.Sides.{row_of}
use Rattle.diff_report.proofs.Joins.{appended}
use Rattle.diff_report.proofs.pairs.push_change.Goals as goal

pub returns : goal.returns
returns c =
    let old = c.args.out.now.items in
    let left : c.cell-left.result.now ≡ get_or (row_of c.args.sides.now.left c.args.i) c.args.column [] = c.cell-left.ensures in
    let right : c.cell-right.result.now ≡ get_or (row_of c.args.sides.now.right c.args.j) c.args.column [] = c.cell-right.ensures in
    let name = rw c.bytes.ensures at c.in_ok-push_word.ensures in
    let first = rw left at c.in_ok-push_painted_cell.ensures in
    let second = rw right at c.in_ok-push_painted_cell-2.ensures in
    appended old _ _ _ _ (appended old _ _ _ _ (appended old _ _ _ _ (appended old _ _ _ _ name c.in_ok-push.ensures.items) first) c.in_ok-extend_from_slice.ensures.items) second
