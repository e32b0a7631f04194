use Rattle.std.proofs.lemmas.Result.{MatchResult-weaker}
use Rattle.polars_compute_arithmetic.proofs.arithmetic.applied.divide_pairs.Goals as goal

pub returns-in-Ok-clause-answers : goal.returns-in-Ok-clause-answers
returns-in-Ok-clause-answers g c =
    MatchResult-weaker c.apply_pairs.result c.apply_pairs.ensures.answers
    (λ a h. record { between = c.in-Ok.rhs; masks = c.in-Ok.ensures; maps = h })
    (λ y m. m)
