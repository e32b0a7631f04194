use Rattle.std.proofs.Common.{arith}
use Rattle.polars_compare_nested.proofs.AllRows.{same_as_all-push}
use Rattle.polars_compare_nested.proofs.broadcasts.fixed_size_list_broadcast.Goals as goal

pub loop-i-preserved : goal.loop-i-preserved
loop-i-preserved c =
    let same = rw (c.values.ensures.values, c.item_window-from.ensures.first, c.width.ensures) at c.in_ok-same.ensures in
    rw c.push_reserved.ensures (
      same_as_all-push _ _ _ _ _ c.loop-i.invariant.0 same,
      omega (arith, c.loop-i.invariant.1),
    )
