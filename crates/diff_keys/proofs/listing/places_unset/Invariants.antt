use Rattle.diff_keys.specs.Listing.{IsUnset}
use Rattle.diff_keys.specs.Rising.{ListsRising}
use Rattle.diff_keys.proofs.listing.places_unset.Given as goal

abbrev pub invariant-loop-j : goal.invariant-loop-j
invariant-loop-j l = ListsRising (IsUnset l.flags) l.j l.places.items
