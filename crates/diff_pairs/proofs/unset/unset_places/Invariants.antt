use Rattle.diff_keys.specs.Rising.{ListsRising}
use Rattle.diff_pairs.specs.Pairs.{IsUnset}
use Rattle.diff_pairs.proofs.unset.unset_places.Given as goal

abbrev pub invariant-loop-p : goal.invariant-loop-p
invariant-loop-p l = ListsRising (IsUnset l.bits) l.p l.places.items
