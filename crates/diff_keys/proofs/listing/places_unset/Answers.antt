use Rattle.std.proofs.Common.{◌+◌, arith, rules}
use Rattle.diff_keys.specs.Listing.{IsUnset}
use Rattle.diff_keys.specs.RisingLaws.{one_listed, one_passed}
use Rattle.diff_keys.proofs.listing.places_unset.Goals.{then-not-flags-j+in_ok-push, else-not-flags-j}
use Rattle.diff_keys.proofs.listing.places_unset.Goals as goal

pub loop-j-preserved : goal.loop-j-preserved
loop-j-preserved c = elim c.if-not-flags-j.branch [
  | then-not-flags-j+in_ok-push w ↦ rw (w.places-is, w.in_ok-push.ensures.items)
      (one_listed (IsUnset c.args.flags.now) c.loop-j.j (c.loop-j.j + 1) c.loop-j.places.items c.loop-j.invariant (search rules) (omega arith))
  | else-not-flags-j w ↦ rw w.places-is
      (one_passed (IsUnset c.args.flags.now) c.loop-j.j (c.loop-j.j + 1) c.loop-j.places.items c.loop-j.invariant (search rules) (omega arith))
]
