use Rattle.std.proofs.Common.{rules}
use Rattle.std.proofs.lemmas.Result.{MatchResult-weaker}
use Rattle.num_traits.specs.Laws.{bit_len}
use Rattle.polars_compute_arithmetic.proofs.Places.{maps_pairs-weaker}
use Rattle.polars_compute_arithmetic.specs.Results.{Gives}
use Rattle.polars_compute_arithmetic.proofs.arithmetic.applied.apply_pairs.Goals as goal

pub returns-clause-answers : goal.returns-clause-answers
returns-clause-answers g c =
    MatchResult-weaker c.prim_binary_in_place.result c.prim_binary_in_place.ensures.mapped
    (λ a h. maps_pairs-weaker _ (Gives g.T.Number.value g.T.Bounded.low (bit_len g.T.FixedWidth.width) g.O.NumberOperation.meaning)
    (λ x y z p. let e : Gives g.T.Number.value g.T.Bounded.low (bit_len g.T.FixedWidth.width) g.O.NumberOperation.meaning x y z = search rules in e) c.args.lhs c.args.rhs a h)
    (λ y m. m)
