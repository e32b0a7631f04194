use Rattle.std.proofs.Common.{◌≡◌, ◌++◌, drop}
use Rattle.json.specs.Value.{items_view}
use Rattle.diff_markdown.specs.Rows.{item_rows}
use Rattle.diff_markdown.proofs.rows.push_item_rows.Given as goal

abbrev pub invariant-loop-change : goal.invariant-loop-change
invariant-loop-change l = l.out.items ++ item_rows l.name (items_view (drop l.change-index l.change-items)) ≡ l.fn.out.items ++ item_rows l.name (items_view l.change-items)
