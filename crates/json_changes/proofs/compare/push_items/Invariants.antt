use Rattle.std.proofs.Common.{◌≡◌, ◌++◌, drop, map}
use Rattle.json.specs.Value.{items_view}
use Rattle.json_changes.specs.Differences.{alone_items}
use Rattle.json_changes.specs.Texts.{change_view, only_in, rules_view, told_at, trail_view}
use Rattle.json_changes.proofs.compare.push_items.Given as goal

abbrev pub invariant-loop-i : goal.invariant-loop-i
invariant-loop-i l =
    let rules = rules_view l.rules in
    let trail = trail_view l.initial.trail.items in
    (map change_view l.changes.items ++ told_at rules trail (alone_items (only_in l.side) l.i (items_view (drop l.i l.items.items)))
    ≡ map change_view l.initial.changes.items ++ told_at rules trail (alone_items (only_in l.side) l.from (items_view (drop l.from l.items.items))))
    × (l.trail.items ≡ l.initial.trail.items)
