use Rattle.diff_keys.proofs.ListingLemmas.{AreSet}
use Rattle.diff_keys.proofs.listing.flags_of.Given as goal

abbrev pub invariant-loop-k : goal.invariant-loop-k
invariant-loop-k l = AreSet l.rows l.fn.count l.k l.is_listed.items
