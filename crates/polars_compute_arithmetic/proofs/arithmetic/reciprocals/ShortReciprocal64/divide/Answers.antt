use Rattle.std.proofs.Common.{ℕ, ◌^◌, ◌/◌, ◌∙◌, sym, ap}
use Rattle.polars_compute_arithmetic.proofs.Quotient.{quotient_shifted-wide}
use Rattle.polars_compute_arithmetic.proofs.arithmetic.reciprocals.ShortReciprocal64.divide.Goals as goal

pub returns-clause-quotient : goal.returns-clause-quotient
returns-clause-quotient c =
    ap (λ (y : ℕ). y / 2 ^ c.self.inside.shift) c.high_product.ensures.product
    ∙ quotient_shifted-wide c.args.a c.self.inside.divisor c.self.inside.shift c.self.inside.factor c.args.self.now c.requires c.self.invariant.0 c.self.invariant.3 c.self.invariant.4 (sym c.self.view_is)
