use Rattle.std.proofs.lemmas.Result.{MatchResult-weaker}
use Rattle.polars_arrays_flat.specs.Row.{Bytes}
use Rattle.std.proofs.Common.{◌∙◌, ap₂, map}
use Rattle.polars_arrays_flat.specs.StoredRows.{byte_slots}
use Rattle.polars_arrays_views.specs.Parts.{view_strings}
use Rattle.polars_compare_leaves.specs.Order.{row_at_least}
use Rattle.polars_compare_order.proofs.Ordered.{ordered-constant}
use Rattle.polars_compare_order.proofs.views.Utf8ViewArrayTextOrdKernel.tot_ge_kernel_broadcast.Goals as goal

pub returns : goal.returns
returns c =
    MatchResult-weaker c.compare_view_bytes.result c.compare_view_bytes.ensures
    (λ bits e. ordered-constant row_at_least _ _ _ (Bytes c.args.other.now) bits (e ∙ ap₂ (λ a xs. map (λ row. row_at_least row (Bytes xs)) (byte_slots (view_strings a))) c.as_binview.ensures.bytes c.as_bytes.ensures.value))
    (λ error m. m)
