use Rattle.std.proofs.Common.{◌≡◌, ◌++◌, drop}
use Rattle.json.specs.Value.{members_view}
use Rattle.diff_aligned.specs.Rows.{member_rows, rows_view}
use Rattle.diff_aligned.specs.declared.rows.Mark.TheVariants.{Changed}
use Rattle.diff_aligned.proofs.rows.push_member_rows.Given as goal

abbrev pub invariant-loop-change : goal.invariant-loop-change
invariant-loop-change l =
    rows_view l.rows.items ++ member_rows l.mark l.key.items (members_view (drop l.change-index l.change-items)) ≡ rows_view l.fn.rows.items ++ member_rows Changed l.fn.name.items (members_view l.change-items)
