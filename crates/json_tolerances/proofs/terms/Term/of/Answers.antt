use Rattle.std.proofs.Common.{arith}
use Rattle.fast_float.proofs.Rows.{AllDigits-append}
use Rattle.json_tolerances.proofs.terms.Term.of.Goals as goal

pub invariant_of-result : goal.invariant_of-result
invariant_of-result c = (AllDigits-append _ _ c.whole.ensures.digits c.fraction.ensures.digits, omega (arith, c.requires))
