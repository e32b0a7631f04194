use Rattle.std.proofs.Common.{◌≡◌, ap, sym, ◌∙◌}
use Rattle.json_decimals.specs.Decimals.{Decimal, decimal_of, is_negative}
use Rattle.json_tolerances.proofs.bounds.Bound.read.Goals as goal

pub returns-then-is_negative-clause-fault : goal.returns-then-is_negative-clause-fault
unfolding decimal_of
returns-then-is_negative-clause-fault c =
    let sign : c.in-Some.number.negative ≡ is_negative c.args.text.now = ap (λ (d : Decimal). d.negative) c.in-Some.ensures.number in
    sym sign ∙ sym c.is_negative.ensures ∙ c.if-is_negative.true
