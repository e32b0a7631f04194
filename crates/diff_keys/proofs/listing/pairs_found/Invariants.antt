use Rattle.diff_keys.specs.Listing.{ListsFound}
use Rattle.diff_keys.proofs.listing.pairs_found.Given as goal

abbrev pub invariant-loop-i : goal.invariant-loop-i
invariant-loop-i l = ListsFound l.found l.i l.left_rows.items l.right_rows.items
