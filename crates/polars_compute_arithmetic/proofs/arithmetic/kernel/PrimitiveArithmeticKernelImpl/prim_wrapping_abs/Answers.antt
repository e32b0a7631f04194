use Rattle.std.proofs.Common.{◌≡◌, refl, rules}
use Rattle.std.proofs.lemmas.Result.{MatchResult-weaker}
use Rattle.num_traits.specs.Laws.{bit_len}
use Rattle.polars_arrays_numbers.specs.Wrapping.{wrapped}
use Rattle.polars_compute_arithmetic.proofs.Places.{answers}
use Rattle.polars_compute_arithmetic.specs.Operations.{magnitude_of, or_zero}
use Rattle.polars_compute_arithmetic.proofs.arithmetic.kernel.PrimitiveArithmeticKernelImpl.prim_wrapping_abs.Goals as goal

pub returns-clause-answers : goal.returns-clause-answers
returns-clause-answers g c =
    MatchResult-weaker c.prim_unary_in_place.result c.prim_unary_in_place.ensures.mapped
    (λ a h. answers g.Self.Number.value g.Self.Bounded.low (bit_len g.Self.FixedWidth.width) magnitude_of _ (λ x z p. let e : g.Self.Number.value z ≡ wrapped g.Self.Bounded.low (bit_len g.Self.FixedWidth.width) (or_zero (magnitude_of (g.Self.Number.value x))) = search rules in e) c.args.lhs a (λ n. refl) h)
    (λ y m. m)
