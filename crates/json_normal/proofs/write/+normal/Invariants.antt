use Rattle.std.proofs.Common.{◌≡◌, ◌<◌, ◌++◌, ℕ, drop, get_or, length, Global}
use Rattle.std.specs.Prelude.{map}
use Rattle.json.specs.Strict.{ItemsHaveUniqueKeys}
use Rattle.json.specs.Tree.{json_tokens, items_tokens, members_tokens}
use Rattle.json.specs.Value.{value_view, items_view, members_view}
use Rattle.json_normal.specs.Normal.{normal_items, members_from, entry_of}
use Rattle.json_normal.specs.Narrow.{ItemsHaveNarrowNumbers}
use Rattle.json_normal.proofs.NarrowLemmas.{Narrow}
use Rattle.json_normal.proofs.SortedLemmas.{Ref}
use Rattle.json_normal.proofs.write.+normal.Given as goal

abbrev pub decreases-write_normal : goal.decreases-write_normal
decreases-write_normal l = length (json_tokens (value_view l.value.now))

abbrev pub decreases-write_items : goal.decreases-write_items
decreases-write_items l = length (items_tokens (items_view l.items.now.items))

abbrev pub decreases-write_members : goal.decreases-write_members
decreases-write_members l = length (members_tokens (members_view l.members.now.items))

abbrev pub invariant-write_items-loop-item : goal.invariant-write_items-loop-item
invariant-write_items-loop-item l =
    let rest = items_view (drop l.item-index l.item-items) in
    (l.writer.tokens ++ items_tokens (normal_items rest) ≡ l.initial.writer.tokens ++ items_tokens (normal_items (items_view l.item-items)))
    × (l.writer.before ≡ l.initial.writer.before) × ItemsHaveUniqueKeys rest
    × (ItemsHaveNarrowNumbers rest → ItemsHaveNarrowNumbers (items_view l.item-items)) × (ItemsHaveNarrowNumbers (items_view l.item-items) → ItemsHaveNarrowNumbers rest)

abbrev pub invariant-write_members-loop-i : goal.invariant-write_members-loop-i
invariant-write_members-loop-i l =
    (l.writer.tokens ++ members_tokens (members_from (map entry_of (drop l.i l.order.items))) ≡ l.initial.writer.tokens ++ members_tokens (members_from (map entry_of l.order.items)))
    × (l.writer.before ≡ l.initial.writer.before)
    × ((k : ℕ) (d : Ref Global) → k < l.i → Narrow (get_or l.order.items k d).now)
