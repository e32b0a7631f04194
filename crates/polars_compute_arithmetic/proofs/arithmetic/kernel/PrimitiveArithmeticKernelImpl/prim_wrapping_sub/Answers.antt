use Rattle.std.proofs.Common.{refl}
use Rattle.std.proofs.lemmas.Result.{MatchResult-weaker}
use Rattle.num_traits.specs.Laws.{bit_len}
use Rattle.polars_compute_arithmetic.proofs.Places.{results}
use Rattle.polars_compute_arithmetic.specs.Operations.{difference_of}
use Rattle.polars_compute_arithmetic.proofs.arithmetic.kernel.PrimitiveArithmeticKernelImpl.prim_wrapping_sub.Goals as goal

pub returns-clause-answers : goal.returns-clause-answers
returns-clause-answers g c =
    MatchResult-weaker c.apply_pairs.result c.apply_pairs.ensures.answers
    (λ a h. results g.Self.Number.value g.Self.Bounded.low (bit_len g.Self.FixedWidth.width) difference_of _ (λ x y z p. p) c.args.lhs c.args.rhs a (λ n m. refl) c.requires h)
    (λ y m. m)
