use Rattle.std.proofs.Common.{◌+◌, arith, rules}
use Rattle.diff_keys.specs.Listing.{HasNone}
use Rattle.diff_keys.specs.RisingLaws.{one_listed, one_passed}
use Rattle.diff_keys.proofs.listing.rows_alone.Goals.{then-is_none+in_ok-push, else-is_none}
use Rattle.diff_keys.proofs.listing.rows_alone.Goals as goal

pub loop-i-preserved : goal.loop-i-preserved
loop-i-preserved c = elim c.if-is_none.branch [
  | then-is_none+in_ok-push w ↦ rw (w.alone-is, w.in_ok-push.ensures.items)
      (one_listed (HasNone c.args.found.now) c.loop-i.i (c.loop-i.i + 1) c.loop-i.alone.items c.loop-i.invariant (search rules) (omega arith))
  | else-is_none w ↦ rw w.alone-is
      (one_passed (HasNone c.args.found.now) c.loop-i.i (c.loop-i.i + 1) c.loop-i.alone.items c.loop-i.invariant (search rules) (omega arith))
]
