use Rattle.std.proofs.lemmas.Result.{MatchResult-weaker}
use Rattle.polars_compare_order.proofs.Ordered.{ordered-windows}
use Rattle.polars_compare_order.proofs.numbers.PrimitiveArrayTotalOrdKernel.tot_le_kernel.Goals as goal

pub returns : goal.returns
returns g c =
    MatchResult-weaker c.compare_number_windows.result c.compare_number_windows.ensures
    (λ bits e. ordered-windows _ _ _ _ _ _ bits c.len.ensures c.requires e)
    (λ error m. m)
