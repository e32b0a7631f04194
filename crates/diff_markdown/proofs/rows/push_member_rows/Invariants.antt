use Rattle.std.proofs.Common.{◌≡◌, ◌++◌, drop}
use Rattle.json.specs.Value.{members_view}
use Rattle.diff_markdown.specs.Rows.{member_rows}
use Rattle.diff_markdown.proofs.rows.push_member_rows.Given as goal

abbrev pub invariant-loop-change : goal.invariant-loop-change
invariant-loop-change l = l.out.items ++ member_rows l.name (members_view (drop l.change-index l.change-items)) ≡ l.fn.out.items ++ member_rows l.name (members_view l.change-items)
