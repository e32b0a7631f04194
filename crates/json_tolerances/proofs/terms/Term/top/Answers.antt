use Rattle.std.proofs.Common.{◌++◌, length-append}
use Rattle.json_tolerances.proofs.TermLemmas.{below_top}
use Rattle.json_tolerances.proofs.terms.Term.top.Goals as goal

pub returns-clause-above : goal.returns-clause-above
returns-clause-above c =
    let t = c.self.inside in
    rw (← c.self.view_is, ← length-append t.whole.now t.fraction.now) (below_top (t.whole.now ++ t.fraction.now) t.tens c.self.invariant.0)
