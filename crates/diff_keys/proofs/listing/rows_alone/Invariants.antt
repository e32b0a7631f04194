use Rattle.diff_keys.specs.Listing.{HasNone}
use Rattle.diff_keys.specs.Rising.{ListsRising}
use Rattle.diff_keys.proofs.listing.rows_alone.Given as goal

abbrev pub invariant-loop-i : goal.invariant-loop-i
invariant-loop-i l = ListsRising (HasNone l.found) l.i l.alone.items
