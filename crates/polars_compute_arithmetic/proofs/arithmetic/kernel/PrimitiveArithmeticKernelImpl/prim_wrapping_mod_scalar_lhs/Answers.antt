use Rattle.std.proofs.lemmas.Result.{MatchResult-weaker}
use Rattle.num_traits.specs.Laws.{bit_len}
use Rattle.polars_compute_arithmetic.proofs.Places.{has_answer-nonzero, answers-nonzero}
use Rattle.polars_compute_arithmetic.specs.Operations.{modulo}
use Rattle.polars_compute_arithmetic.specs.Quotients.{modulus}
use Rattle.polars_compute_arithmetic.proofs.arithmetic.kernel.PrimitiveArithmeticKernelImpl.prim_wrapping_mod_scalar_lhs.Goals as goal

pub returns-clause-answers : goal.returns-clause-answers
returns-clause-answers g c =
    MatchResult-weaker c.divide_by_each.result c.divide_by_each.ensures.answers
    (λ a h. answers-nonzero g.Self.Number.value g.Self.Bounded.low (bit_len g.Self.FixedWidth.width) (modulo (g.Self.Number.value c.args.lhs)) _ (λ x z p. p) c.args.rhs h.between a (has_answer-nonzero modulus (g.Self.Number.value c.args.lhs)) h.masks h.maps)
    (λ y m. m)
