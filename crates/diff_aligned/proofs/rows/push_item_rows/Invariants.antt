use Rattle.std.proofs.Common.{◌≡◌, ◌++◌, drop}
use Rattle.json.specs.Value.{items_view}
use Rattle.diff_aligned.specs.Rows.{item_rows, rows_view}
use Rattle.diff_aligned.specs.declared.rows.Mark.TheVariants.{Changed}
use Rattle.diff_aligned.proofs.rows.push_item_rows.Given as goal

abbrev pub invariant-loop-change : goal.invariant-loop-change
invariant-loop-change l =
    rows_view l.rows.items ++ item_rows l.mark l.key.items (items_view (drop l.change-index l.change-items)) ≡ rows_view l.fn.rows.items ++ item_rows Changed l.fn.name.items (items_view l.change-items)
