use Rattle.std.proofs.Common.{List, map, take}
use Rattle.json_parts.specs.Parts.{Part, part_view}
use Rattle.json_groups.specs.Groups.{HoldsDocuments, HoldsParts}
use Rattle.json_groups.proofs.groups.Groups.add_document.Given as goal

abbrev pub invariant-loop-i : goal.invariant-loop-i
invariant-loop-i g l =
    (documents : List (List Part)) → HoldsDocuments g.T.Tally.Gathers documents l.fn.self → HoldsParts g.T.Tally.Gathers documents (map part_view (take l.i l.parts.items)) l.self
