use Rattle.std.proofs.Common.{◌++◌, map}
use Rattle.dunkelva_options.specs.Lists.{list_parts}
use Rattle.dunkelva_options.proofs.Parts.{IsRead}
use Rattle.dunkelva_options.proofs.lists.push_parts.Given as goal

abbrev pub invariant-loop-at : goal.invariant-loop-at
invariant-loop-at l =
    IsRead l.list l.quoting l.start l.at (map (λ text. text.now) l.parts.items) (map (λ text. text.now) l.fn.parts.items ++ list_parts l.list)
