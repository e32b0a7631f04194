use Rattle.std.proofs.lemmas.Result.{MatchResult-weaker}
use Rattle.polars_compute_arithmetic.proofs.arithmetic.applied.divide_by_each.Goals as goal

pub returns-clause-answers : goal.returns-clause-answers
returns-clause-answers g c =
    MatchResult-weaker c.apply_left.result c.apply_left.ensures.answers
    (λ a h. record { between = c.in_ok-rhs.rhs; masks = c.in_ok-rhs.ensures; maps = h })
    (λ y m. m)
