use Rattle.std.proofs.Common.{◌≡◌, ◌+◌, ◌++◌, min, length, length-append, arith, sym, ap, ◌∙◌}
use Rattle.json_tolerances.proofs.TermLemmas.{zeros_up, zeros_within}
use Rattle.json_tolerances.proofs.terms.Term.zeros_from.Goals as goal

pub returns-then-place-self-clause-zeros : goal.returns-then-place-self-clause-zeros
returns-then-place-self-clause-zeros c =
    let t = c.self.inside in
    rw (← c.self.view_is) (λ p h l. zeros_within (t.whole.now ++ t.fraction.now) t.tens c.args.place p c.if-place-self.true l)

pub returns-else-place-self-clause-zeros : goal.returns-else-place-self-clause-zeros
returns-else-place-self-clause-zeros c =
    let t = c.self.inside in
    let long = length-append t.whole.now t.fraction.now in
    let end : min c.args.place (length (t.whole.now ++ t.fraction.now) + t.tens) ≡ c.min.result = ap (λ n. min c.args.place (n + t.tens)) long ∙ sym c.min.ensures in
    rw (← c.self.view_is) (λ p h l. zeros_up (t.whole.now ++ t.fraction.now) t.tens c.args.place p c.self.invariant.0 (omega (arith, end)) l)
