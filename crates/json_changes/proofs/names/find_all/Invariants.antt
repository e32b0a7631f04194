use Rattle.std.proofs.Common.{◌≡◌, map, take}
use Rattle.json.specs.Value.{members_view}
use Rattle.json_changes.specs.Names.{found_values, seen}
use Rattle.json_changes.proofs.names.find_all.Given as goal

abbrev pub invariant-loop-i : goal.invariant-loop-i
invariant-loop-i l = map seen l.found.items ≡ found_values (take l.i l.members.items) (members_view l.among.items)
