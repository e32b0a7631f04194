use Rattle.std.proofs.Common.{◌≡◌, true}
use Rattle.std.proofs.lemmas.Result.{MatchResult-weaker}
use Rattle.polars_compare_equality.proofs.kernel.TotalEqKernel.tot_eq_missing_kernel_broadcast.Goals as goal

pub returns : goal.returns
returns g c =
    let has : g.Self.TotalEqKernel.broadcasts ≡ true = c.in_ok-raw.ensures.0 in
    MatchResult-weaker c.join_scalar.result c.join_scalar.ensures
    (λ bits joined. (has, joined _ (g.met.Self.TotalEqKernel.scalar_law c.args.other.now has) c.in_ok-raw.ensures.1))
    (λ error m. rw has m)
