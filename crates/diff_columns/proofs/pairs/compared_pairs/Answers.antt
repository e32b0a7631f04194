use Rattle.std.proofs.Common.{◌+◌, arith}
use Rattle.diff_columns.proofs.LayoutLemmas.{pair_listed, pair_passed}
use Rattle.diff_columns.proofs.pairs.compared_pairs.Goals.{in-Some+in_ok-push+in_ok-push-2, in_default}
use Rattle.diff_columns.proofs.pairs.compared_pairs.Goals as goal

pub loop-i-preserved : goal.loop-i-preserved
loop-i-preserved g c =
    let left = g.L.ByteRows.strings c.args.left.now in
    let right = g.R.ByteRows.strings c.args.right.now in
    elim c.match-partner.branch [
      | in-Some+in_ok-push+in_ok-push-2 w ↦ rw (w.left_columns-is, w.right_columns-is, w.in_ok-push.ensures.items, w.in_ok-push-2.ensures.items)
          (pair_listed c.args.choice.now left right c.loop-i.i (c.loop-i.i + 1) w.in-Some.j c.loop-i.left_columns.items c.loop-i.right_columns.items c.loop-i.invariant w.in-Some.ensures (omega arith))
      | in_default w ↦ rw (w.left_columns-is, w.right_columns-is)
          (pair_passed c.args.choice.now left right c.loop-i.i (c.loop-i.i + 1) c.loop-i.left_columns.items c.loop-i.right_columns.items c.loop-i.invariant w.in_default.ensures (omega arith))
    ]
