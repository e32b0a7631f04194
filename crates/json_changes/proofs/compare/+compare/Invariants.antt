use Rattle.std.proofs.Common.{◌≡◌, ◌++◌, suc, drop, length, map}
use Rattle.json.specs.Tree.{json_tokens, items_tokens, members_tokens}
use Rattle.json.specs.Value.{value_view, items_view, members_view}
use Rattle.json_changes.specs.Differences.{item_differences, member_differences}
use Rattle.json_changes.specs.Texts.{change_view, rules_view, told_at, trail_view}
use Rattle.json_changes.proofs.compare.+compare.Given as goal

abbrev pub decreases-compare : goal.decreases-compare
decreases-compare l = length (json_tokens (value_view l.left.now))

abbrev pub decreases-compare_found : goal.decreases-compare_found
decreases-compare_found l = suc (length (json_tokens (value_view l.left.now)))

abbrev pub decreases-compare_items : goal.decreases-compare_items
decreases-compare_items l = length (items_tokens (items_view l.own.now.items))

abbrev pub decreases-compare_members : goal.decreases-compare_members
decreases-compare_members l = length (members_tokens (members_view l.own.now.items))

abbrev pub invariant-compare_items-loop-i : goal.invariant-compare_items-loop-i
invariant-compare_items-loop-i l =
    let rules = rules_view l.rules in
    let trail = trail_view l.initial.trail.items in
    (map change_view l.changes.items ++ told_at rules trail (item_differences l.i (items_view (drop l.i l.own.items)) (items_view (drop l.i l.other.items)))
    ≡ map change_view l.initial.changes.items ++ told_at rules trail (item_differences 0 (items_view l.own.items) (items_view l.other.items)))
    × (l.trail.items ≡ l.initial.trail.items)

abbrev pub invariant-compare_members-loop-i : goal.invariant-compare_members-loop-i
invariant-compare_members-loop-i l =
    let rules = rules_view l.rules in
    let trail = trail_view l.initial.trail.items in
    let other = members_view l.other.items in
    (map change_view l.changes.items ++ told_at rules trail (member_differences (members_view (drop l.i l.own.items)) other)
    ≡ map change_view l.initial.changes.items ++ told_at rules trail (member_differences (members_view l.own.items) other))
    × (l.trail.items ≡ l.initial.trail.items)
