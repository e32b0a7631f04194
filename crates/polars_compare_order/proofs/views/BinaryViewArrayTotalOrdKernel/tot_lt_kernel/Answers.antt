use Rattle.std.proofs.Common.{refl, length}
use Rattle.std.proofs.lemmas.Result.{MatchResult-weaker}
use Rattle.polars_arrays_views.specs.Parts.{view_strings}
use Rattle.polars_compare_leaves.specs.Order.{row_less}
use Rattle.polars_compare_order.proofs.Pairs.{ordered-pairs}
use Rattle.polars_compare_order.proofs.views.BinaryViewArrayTotalOrdKernel.tot_lt_kernel.Goals as goal

pub returns : goal.returns
returns c =
    MatchResult-weaker c.tot_lt_kernel_followed.result c.tot_lt_kernel_followed.ensures.told
    (λ bits pairs. ordered-pairs row_less _ _ (view_strings c.args.self.now) (view_strings c.args.other.now) (length (view_strings c.args.self.now)) bits refl c.requires pairs)
    (λ error m. m)
