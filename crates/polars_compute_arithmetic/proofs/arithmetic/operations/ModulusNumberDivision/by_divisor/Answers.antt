use Rattle.std.proofs.Common.{◌≡◌, ◌∙◌, ap, sym}
use Rattle.std.specs.Prelude.{ℤ, ◌-ℤ◌, ◌*ℤ◌}
use Rattle.num_traits.specs.Laws.{bit_len}
use Rattle.polars_arrays_numbers.specs.Wrapping.{wrapped}
use Rattle.polars_compute_arithmetic.proofs.Rounding.{unless_zero-is}
use Rattle.polars_compute_arithmetic.specs.Operations.{or_zero}
use Rattle.polars_compute_arithmetic.specs.Quotients.{floor_quotient, modulus}
use Rattle.polars_compute_arithmetic.specs.WrapLaws.{wrapped-sub_right}
use Rattle.polars_compute_arithmetic.proofs.arithmetic.operations.ModulusNumberDivision.by_divisor.Goals as goal

pub returns : goal.returns
returns g c =
    let quotient : g.T.Number.value c.floor_by.result ≡ floor_quotient (g.T.Number.value c.args.x) (g.T.Number.value c.args.rhs) = c.floor_by.ensures ∙ ap (floor_quotient (g.T.Number.value c.args.x)) c.requires.same in
    c.wrapping_sub.ensures
    ∙ ap (λ (z : ℤ). wrapped g.T.Bounded.low (bit_len g.T.FixedWidth.width) ((g.T.Number.value c.args.x) -ℤ z)) c.wrapping_mul-product.ensures
    ∙ wrapped-sub_right g.T.Bounded.low (bit_len g.T.FixedWidth.width) (g.T.Number.value c.args.x) ((g.T.Number.value c.args.rhs) *ℤ g.T.Number.value c.floor_by.result)
    ∙ ap (λ (z : ℤ). wrapped g.T.Bounded.low (bit_len g.T.FixedWidth.width) ((g.T.Number.value c.args.x) -ℤ (g.T.Number.value c.args.rhs) *ℤ z)) quotient
    ∙ ap (wrapped g.T.Bounded.low (bit_len g.T.FixedWidth.width)) (sym (ap or_zero (unless_zero-is modulus (g.T.Number.value c.args.x) (g.T.Number.value c.args.rhs) c.requires.some)))
