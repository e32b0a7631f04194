use Rattle.std.proofs.lemmas.Result.{MatchResult-weaker}
use Rattle.polars_compare_order.proofs.Ordered.{ordered-windows}
use Rattle.polars_compare_order.proofs.booleans.BooleanArrayTotalOrdKernel.tot_lt_kernel.Goals as goal

pub returns : goal.returns
returns c =
    MatchResult-weaker c.compare_truth_windows.result c.compare_truth_windows.ensures
    (λ bits e. ordered-windows _ _ _ _ _ _ bits c.len.ensures c.requires e)
    (λ error m. m)
