use Rattle.std.proofs.Common.{◌+◌, ◌-◌, ◌++◌, length, length-append, arith, ap, ◌∙◌}
use Rattle.std.proofs.lemmas.Str.Parse.{digit_at}
use Rattle.json_tolerances.proofs.TermLemmas.{digit_within, digit_before, digit_here}
use Rattle.std.specs.Str.Parse.{digits_value}
use Rattle.json_tolerances.proofs.terms.Term.digit.Goals as goal

pub returns-then-place-self : goal.returns-then-place-self
returns-then-place-self c =
    let t = c.self.inside in
    rw (← c.self.view_is) (digit_within (digits_value 10 (t.whole.now ++ t.fraction.now)) t.tens c.args.place c.if-place-self.true)

pub returns-then-behind-len : goal.returns-then-behind-len
returns-then-behind-len c =
    let t = c.self.inside in
    let long = length-append t.whole.now t.fraction.now in
    rw (← c.self.view_is) (digit_before (t.whole.now ++ t.fraction.now) t.tens c.args.place c.self.invariant.0 c.if-place-self.false (omega (arith, long)))

pub overflow_sub-result : goal.overflow_sub-result
overflow_sub-result c =
    let t = c.self.inside in
    let long = length-append t.whole.now t.fraction.now in
    let range = digit_at (t.whole.now ++ t.fraction.now) (length t.whole.now + length t.fraction.now - 1 - (c.args.place - t.tens)) c.self.invariant.0 (omega (arith, long)) in
    omega (arith, range, c.byte_at.ensures)

pub returns : goal.returns
returns c =
    let t = c.self.inside in
    let long = length-append t.whole.now t.fraction.now in
    let i = length t.whole.now + length t.fraction.now - 1 - (c.args.place - t.tens) in
    rw (← c.self.view_is) (ap (λ b. b - 48) c.byte_at.ensures ∙ digit_here (t.whole.now ++ t.fraction.now) t.tens c.args.place i c.self.invariant.0 c.if-place-self.false (omega (arith, long)) (omega (arith, long)))
