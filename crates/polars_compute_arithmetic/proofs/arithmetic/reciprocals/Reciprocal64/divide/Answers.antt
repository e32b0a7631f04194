use Rattle.std.proofs.Common.{ℕ, ◌+◌, ◌^◌, ◌/◌, ◌∙◌, sym, ap, arith}
use Rattle.polars_compute_arithmetic.proofs.Quotient.{quotient_carried}
use Rattle.polars_compute_arithmetic.proofs.arithmetic.reciprocals.Reciprocal64.divide.Goals as goal

pub returns : goal.returns
returns c =
    ap (λ (y : ℕ). y / 2 ^ c.self.inside.shift) (c.half_sum.ensures ∙ ap (λ (y : ℕ). (c.args.a + y) / 2) c.high_product.ensures.product)
    ∙ quotient_carried c.args.a c.self.inside.divisor c.self.inside.shift c.self.inside.factor 18446744073709551616 c.args.self.now (omega arith) (omega arith) c.self.invariant.0 c.self.invariant.3 c.self.invariant.4 (sym c.self.view_is)
