use Rattle.std.proofs.lemmas.Result.{MatchResult-weaker}
use Rattle.polars_compare_equality.proofs.Listed.{turned}
use Rattle.polars_compare_equality.proofs.fixed_size_lists.FixedSizeListArrayTotalEqKernel.tot_ne_kernel.Goals as goal

pub returns : goal.returns
returns c =
    MatchResult-weaker c.not.result c.not.ensures
    (λ bits e. rw e (turned _ _ _ _ _ _ c.in_ok-equal.ensures))
    (λ error m. m)
