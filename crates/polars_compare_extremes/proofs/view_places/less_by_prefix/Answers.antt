use Rattle.polars_arrays_views.proofs.LessRows.{prefix_of_view}
use Rattle.polars_compare_extremes.proofs.ViewOrder.{greater_prefix}
use Rattle.polars_compare_extremes.proofs.view_places.less_by_prefix.Goals as goal

pub returns-then-prefix : goal.returns-then-prefix
returns-then-prefix c =
    let v = c.view.ensures in
    let w = c.view-2.ensures in
    greater_prefix _ _ _ _ (prefix_of_view _ _ _ _ v.good v.row c.prefix.ensures) (prefix_of_view _ _ _ _ w.good w.row c.prefix-2.ensures) c.if-prefix.true
