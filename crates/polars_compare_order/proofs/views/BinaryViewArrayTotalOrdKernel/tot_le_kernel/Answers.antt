use Rattle.std.proofs.lemmas.Result.{MatchResult-weaker}
use Rattle.polars_arrays_views.specs.Parts.{view_strings}
use Rattle.polars_compare_leaves.specs.Order.{row_at_most}
use Rattle.polars_compare_order.proofs.Pairs.{ordered-pairs}
use Rattle.polars_compare_order.proofs.views.BinaryViewArrayTotalOrdKernel.tot_le_kernel.Goals as goal

pub returns : goal.returns
returns c =
    MatchResult-weaker c.compare_view_windows.result c.compare_view_windows.ensures.told
    (λ bits pairs. ordered-pairs row_at_most _ _ (view_strings c.args.self.now) (view_strings c.args.other.now) c.count.result bits c.count.ensures c.requires pairs)
    (λ error m. m)
