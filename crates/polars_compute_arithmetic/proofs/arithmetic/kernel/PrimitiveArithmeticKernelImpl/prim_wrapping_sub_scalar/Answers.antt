use Rattle.std.proofs.Common.{refl}
use Rattle.std.proofs.lemmas.Result.{MatchResult-weaker}
use Rattle.num_traits.specs.Laws.{bit_len}
use Rattle.polars_compute_arithmetic.proofs.Places.{answers}
use Rattle.polars_compute_arithmetic.specs.Operations.{difference_of}
use Rattle.polars_compute_arithmetic.proofs.arithmetic.kernel.PrimitiveArithmeticKernelImpl.prim_wrapping_sub_scalar.Goals as goal

pub returns-clause-answers : goal.returns-clause-answers
returns-clause-answers g c =
    MatchResult-weaker c.apply_right.result c.apply_right.ensures.answers
    (λ a h. answers g.Self.Number.value g.Self.Bounded.low (bit_len g.Self.FixedWidth.width) (λ n. difference_of n (g.Self.Number.value c.args.rhs)) _ (λ x z p. p) c.args.lhs a (λ n. refl) h)
    (λ y m. m)
