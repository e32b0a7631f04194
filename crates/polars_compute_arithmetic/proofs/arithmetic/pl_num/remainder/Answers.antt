use Rattle.std.proofs.Common.{◌≡◌, ◌∙◌, ap, subst}
use Rattle.std.specs.Prelude.{ℤ, pos, ◌≤ℤ◌}
use Rattle.num_traits.specs.Laws.{bit_len}
use Rattle.polars_compute_arithmetic.proofs.Rounding.{remainder-is}
use Rattle.polars_compute_arithmetic.proofs.arithmetic.pl_num.remainder.Goals as goal

pub returns : goal.returns
returns g c =
    let zero : g.T.Number.value c.zero.result ≡ pos 0 = ap g.T.Number.value c.zero.ensures ∙ g.met.T.Zero.zero_law g.met.T.Integral.exact_law in
    let low : g.T.Bounded.low ≤ℤ pos 0 = subst (λ (z : ℤ). g.T.Bounded.low ≤ℤ z) zero c.law_ends-2.ensures.least in
    let high : pos 0 ≤ℤ g.T.Bounded.high = subst (λ (z : ℤ). z ≤ℤ g.T.Bounded.high) zero c.law_ends-2.ensures.greatest in
    let h =
    remainder-is g.T.Bounded.low g.T.Bounded.high (bit_len g.T.FixedWidth.width) g.met.T.WrappingNumber.range_law _ _ c.requires.some
    _ _ _ c.law_ends.ensures.least c.law_ends.ensures.greatest low high c.requires.quotient c.wrapping_mul-product.ensures c.wrapping_sub.ensures in
    record { rest = h.0; wraps = h.1 }
