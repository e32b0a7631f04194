use Rattle.std.proofs.Common.{◌≡◌, ◌++◌, drop, map}
use Rattle.json.specs.Value.{members_view}
use Rattle.json_changes.specs.Differences.{added_members}
use Rattle.json_changes.specs.Texts.{change_view, rules_view, told_at, trail_view}
use Rattle.json_changes.proofs.compare.push_added_members.Given as goal

abbrev pub invariant-loop-i : goal.invariant-loop-i
invariant-loop-i l =
    let rules = rules_view l.rules in
    let trail = trail_view l.initial.trail.items in
    let own = members_view l.own.items in
    (map change_view l.changes.items ++ told_at rules trail (added_members own (members_view (drop l.i l.other.items)))
    ≡ map change_view l.initial.changes.items ++ told_at rules trail (added_members own (members_view l.other.items)))
    × (l.trail.items ≡ l.initial.trail.items)
