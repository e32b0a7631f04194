use Rattle.std.proofs.Common.{rules}
use Rattle.std.proofs.lemmas.Result.{MatchResult-weaker}
use Rattle.num_traits.specs.Laws.{bit_len}
use Rattle.polars_compute_arithmetic.proofs.Places.{maps_each-weaker}
use Rattle.polars_compute_arithmetic.specs.Results.{Gives}
use Rattle.polars_compute_arithmetic.proofs.arithmetic.applied.apply_right.Goals as goal

pub returns-clause-answers : goal.returns-clause-answers
returns-clause-answers g c =
    MatchResult-weaker c.prim_unary_in_place.result c.prim_unary_in_place.ensures.mapped
    (λ a h. maps_each-weaker _ (λ x z. Gives g.T.Number.value g.T.Bounded.low (bit_len g.T.FixedWidth.width) g.O.NumberOperation.meaning x c.args.rhs z)
    (λ x z p. let e : Gives g.T.Number.value g.T.Bounded.low (bit_len g.T.FixedWidth.width) g.O.NumberOperation.meaning x c.args.rhs z = search rules in e) c.args.lhs a h)
    (λ y m. m)
