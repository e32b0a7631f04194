use Rattle.std.proofs.Common.{◌+◌, arith}
use Rattle.diff_tables.proofs.AlikeLemmas.{lengths_told, none_told}
use Rattle.diff_tables.proofs.alike.lengths_agree.Goals as goal

pub loop-p-init : goal.loop-p-init
loop-p-init g c = rw c.in_ok-flags.ensures.items (none_told c.args.width _ _ c.args.left_rows.now c.args.right_rows.now c.args.start)

pub are_as_long-requires : goal.are_as_long-requires
are_as_long-requires g c = record {
  left = rw c.lent-left.ensures (c.requires.left c.loop-p.p (omega (arith, c.loop-p-test.true, c.requires.within)));
  right = rw c.lent-right.ensures (c.requires.right c.loop-p.p (omega (arith, c.loop-p-test.true, c.requires.within, c.requires.one_length)));
}

pub loop-p-preserved : goal.loop-p-preserved
loop-p-preserved g c =
    rw c.in_ok-push.ensures.items
    (lengths_told c.args.width _ _ c.args.left_rows.now c.args.right_rows.now c.args.start c.loop-p.p (c.loop-p.p + 1) c.are_as_long.result c.loop-p.flags.items c.loop-p.invariant c.loop-p.auto.p
    (rw (c.lent-left.ensures, c.lent-right.ensures) at c.are_as_long.ensures) (omega arith))
