use Rattle.std.proofs.lemmas.Result.{MatchResult-weaker}
use Rattle.polars_compare_equality.proofs.borrowed.TextEqKernel.tot_eq_missing_kernel_broadcast.Goals as goal

pub returns : goal.returns
returns g c =
    MatchResult-weaker c.join_scalar.result c.join_scalar.ensures
    (λ bits joined. joined _ (λ e. cc) c.in_ok-raw.ensures)
    (λ error m. m)
