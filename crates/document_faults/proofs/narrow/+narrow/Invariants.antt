use Rattle.std.proofs.Common.{drop}
use Rattle.json.specs.Value.{items_view, members_view}
use Rattle.json_normal.specs.Narrow.{ItemsHaveNarrowNumbers, MembersHaveNarrowNumbers}
use Rattle.document_faults.proofs.narrow.+narrow.Given as goal

abbrev pub invariant-check_items-loop-item : goal.invariant-check_items-loop-item
invariant-check_items-loop-item l =
    let all = ItemsHaveNarrowNumbers (items_view l.item-items) in
    let rest = ItemsHaveNarrowNumbers (items_view (drop l.item-index l.item-items)) in
    (rest → all) × (all → rest)

abbrev pub invariant-check_members-loop-member : goal.invariant-check_members-loop-member
invariant-check_members-loop-member l =
    let all = MembersHaveNarrowNumbers (members_view l.member-items) in
    let rest = MembersHaveNarrowNumbers (members_view (drop l.member-index l.member-items)) in
    (rest → all) × (all → rest)
