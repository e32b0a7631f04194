use Rattle.std.proofs.Common.{take}
use Rattle.json.specs.Value.{members_view}
use Rattle.json_changes.specs.Names.{FindsMembers}
use Rattle.json_changes.proofs.names.by_name.Given as goal

abbrev pub invariant-loop-i : goal.invariant-loop-i
invariant-loop-i l = FindsMembers l.names (members_view (take l.i l.members.items))
