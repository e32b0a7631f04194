use Rattle.std.proofs.Common.{◌≡◌, ◌++◌, drop, map}
use Rattle.json.specs.Value.{items_view, members_view}
use Rattle.json_parts.specs.Parts.{item_parts, member_parts, part_view}
use Rattle.json_parts.proofs.parts.+parts.Given as goal

abbrev pub invariant-push_items-loop-item : goal.invariant-push_items-loop-item
invariant-push_items-loop-item l =
    let path = l.initial.path.items in
    (map part_view l.parts.items ++ item_parts path (items_view (drop l.item-index l.item-items)) ≡ map part_view l.initial.parts.items ++ item_parts path (items_view l.item-items))
    × (l.path.items ≡ path)

abbrev pub invariant-push_members-loop-member : goal.invariant-push_members-loop-member
invariant-push_members-loop-member l =
    let path = l.initial.path.items in
    (map part_view l.parts.items ++ member_parts path (members_view (drop l.member-index l.member-items)) ≡ map part_view l.initial.parts.items ++ member_parts path (members_view l.member-items))
    × (l.path.items ≡ path)
