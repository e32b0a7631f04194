use Rattle.diff_keys.specs.NthLaws.{found_partners}
use Rattle.diff_keys.proofs.FoundLemmas.{found_none}
use Rattle.diff_keys.proofs.partners.partners.Goals as goal

pub push_all-requires : goal.push_all-requires
push_all-requires g c = found_none (g.L.ByteRows.strings c.args.left.now) (g.R.ByteRows.strings c.args.right.now) c.in_ok-waiting.waiting c.in_ok-found.found.items c.in_ok-waiting.ensures c.in_ok-found.ensures.items

pub returns-clause-partners : goal.returns-clause-partners
returns-clause-partners g c = λ i low.
    found_partners (g.L.ByteRows.strings c.args.left.now) (g.R.ByteRows.strings c.args.right.now) i _ low (c.in_ok-push_all.ensures.told i low)
