use Rattle.std.proofs.Common.{◌≡◌}
use Rattle.arrow_parts.specs.Lent.{places_from, present_in}
use Rattle.arrow_equality.specs.Lists.{items_of_both}
use Rattle.arrow_equality.proofs.lists.count_items.Given as goal

abbrev pub invariant-loop-i : goal.invariant-loop-i
invariant-loop-i g l =
    l.steps ≡ items_of_both (present_in l.left) (present_in l.right) (places_from l.left.base g.O.Number.value l.offsets) l.i
