use Rattle.std.proofs.Common.{◌+◌, arith, rules}
use Rattle.diff_keys.proofs.ListingLemmas.{pair_listed, pair_passed}
use Rattle.diff_keys.proofs.listing.pairs_found.Goals.{in-Some+in_ok-push+in_ok-push-2, in_default}
use Rattle.diff_keys.proofs.listing.pairs_found.Goals as goal

pub loop-i-preserved : goal.loop-i-preserved
loop-i-preserved c = elim c.match-found-i.branch [
  | in-Some+in_ok-push+in_ok-push-2 w ↦ rw (w.left_rows-is, w.right_rows-is, w.in_ok-push.ensures.items, w.in_ok-push-2.ensures.items)
      (pair_listed c.args.found.now c.loop-i.i (c.loop-i.i + 1) w.in-Some.j c.loop-i.left_rows.items c.loop-i.right_rows.items c.loop-i.invariant (search rules) (omega arith))
  | in_default w ↦ rw (w.left_rows-is, w.right_rows-is)
      (pair_passed c.args.found.now c.loop-i.i (c.loop-i.i + 1) c.loop-i.left_rows.items c.loop-i.right_rows.items c.loop-i.invariant (search rules) (omega arith))
]
