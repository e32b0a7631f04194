use Rattle.std.proofs.lemmas.Result.{MatchResult-weaker}
use Rattle.num_traits.specs.Laws.{bit_len}
use Rattle.polars_compute_arithmetic.proofs.Places.{has_answer-nonzero, results-nonzero}
use Rattle.polars_compute_arithmetic.specs.Operations.{modulo}
use Rattle.polars_compute_arithmetic.specs.Quotients.{modulus}
use Rattle.polars_compute_arithmetic.proofs.arithmetic.kernel.PrimitiveArithmeticKernelImpl.prim_wrapping_mod.Goals as goal

pub returns-clause-answers : goal.returns-clause-answers
returns-clause-answers g c =
    MatchResult-weaker c.divide_pairs.result c.divide_pairs.ensures.answers
    (λ a h. results-nonzero g.Self.Number.value g.Self.Bounded.low (bit_len g.Self.FixedWidth.width) modulo _ (λ x y z p. p) c.args.lhs c.args.rhs h.between a (has_answer-nonzero modulus) c.requires h.masks h.maps)
    (λ y m. m)
