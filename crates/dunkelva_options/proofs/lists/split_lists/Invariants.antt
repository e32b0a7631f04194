use Rattle.std.proofs.Common.{◌≡◌, map, take}
use Rattle.dunkelva_options.specs.Lists.{all_parts}
use Rattle.dunkelva_options.proofs.lists.split_lists.Given as goal

abbrev pub invariant-loop-list : goal.invariant-loop-list
invariant-loop-list l = map (λ text. text.now) l.parts.items ≡ all_parts (map (λ list. list.now) (take l.list-index l.lists))
