use Rattle.std.proofs.Common.{◌+◌, arith, rules}
use Rattle.diff_keys.specs.RisingLaws.{one_listed, one_passed}
use Rattle.diff_columns.specs.Layout.{IsAlone}
use Rattle.diff_columns.proofs.alone.columns_alone.Goals.{then-is_alone+in_ok-push, else-is_alone}
use Rattle.diff_columns.proofs.alone.columns_alone.Goals as goal

pub loop-i-preserved : goal.loop-i-preserved
loop-i-preserved g c =
    let names = g.N.ByteRows.strings c.args.names.now in
    let others = g.O.ByteRows.strings c.args.others.now in
    elim c.if-is_alone.branch [
      | then-is_alone+in_ok-push w ↦ rw (w.alone-is, w.in_ok-push.ensures.items)
          (one_listed (IsAlone c.args.choice.now names others) c.loop-i.i (c.loop-i.i + 1) c.loop-i.alone.items c.loop-i.invariant (search rules) (omega arith))
      | else-is_alone w ↦ rw w.alone-is
          (one_passed (IsAlone c.args.choice.now names others) c.loop-i.i (c.loop-i.i + 1) c.loop-i.alone.items c.loop-i.invariant (search rules) (omega arith))
    ]
