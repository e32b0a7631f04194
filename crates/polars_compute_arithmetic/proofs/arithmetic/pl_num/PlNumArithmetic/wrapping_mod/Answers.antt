use Rattle.std.proofs.Common.{◌≢◌, ◌∙◌, ap, sym}
use Rattle.std.specs.Prelude.{ℤ, pos}
use Rattle.num_traits.specs.Laws.{bit_len}
use Rattle.polars_compute_arithmetic.specs.Quotients.{across}
use Rattle.polars_compute_arithmetic.proofs.Rounding.{modulus-across, modulus-same}
use Rattle.polars_compute_arithmetic.proofs.arithmetic.pl_num.PlNumArithmetic.wrapping_mod.Goals as goal

pub returns-then-is_across : goal.returns-then-is_across
returns-then-is_across g c =
    let exact = g.met.Self.Integral.exact_law in
    let some : g.Self.Number.value c.args.rhs ≢ pos 0 = λ e. let t = (c.is_zero.ensures.value exact).1 e in let h = c.if-is_zero.false in cc in
    let side = ap (λ (r : ℤ). across r (g.Self.Number.value c.args.rhs)) (sym c.remainder-rest.ensures.rest) ∙ sym c.is_across.ensures ∙ c.if-is_across.true in
    c.wrapping_add.ensures ∙ modulus-across g.Self.Bounded.low g.Self.Bounded.high (bit_len g.Self.FixedWidth.width) g.met.Self.WrappingNumber.range_law _ _ some _ side c.remainder-rest.ensures.rest

pub returns-else-is_across : goal.returns-else-is_across
returns-else-is_across g c =
    let exact = g.met.Self.Integral.exact_law in
    let some : g.Self.Number.value c.args.rhs ≢ pos 0 = λ e. let t = (c.is_zero.ensures.value exact).1 e in let h = c.if-is_zero.false in cc in
    let side = ap (λ (r : ℤ). across r (g.Self.Number.value c.args.rhs)) (sym c.remainder-rest.ensures.rest) ∙ sym c.is_across.ensures ∙ c.if-is_across.false in
    modulus-same g.Self.Bounded.low g.Self.Bounded.high (bit_len g.Self.FixedWidth.width) g.met.Self.WrappingNumber.range_law _ _ some _ side c.remainder-rest.ensures.rest c.remainder-rest.ensures.wraps
