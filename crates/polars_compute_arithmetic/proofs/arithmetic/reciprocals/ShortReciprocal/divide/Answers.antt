use Rattle.std.proofs.Common.{refl, sym}
use Rattle.polars_compute_arithmetic.proofs.Quotient.{half-quotient, quotient_shifted}
use Rattle.polars_compute_arithmetic.proofs.arithmetic.reciprocals.ShortReciprocal.divide.Goals as goal

pub returns-clause-quotient : goal.returns-clause-quotient
returns-clause-quotient c =
    quotient_shifted c.args.a c.self.inside.divisor c.self.inside.shift c.self.inside.factor c.args.self.now c.requires c.self.invariant.0 c.self.invariant.3 c.self.invariant.4 (sym c.self.view_is)

pub returns-clause-half : goal.returns-clause-half
returns-clause-half c =
    half-quotient c.args.a c.self.inside.divisor _ c.self.invariant.0 (quotient_shifted c.args.a c.self.inside.divisor c.self.inside.shift c.self.inside.factor c.self.inside.divisor c.requires c.self.invariant.0 c.self.invariant.3 c.self.invariant.4 refl)
