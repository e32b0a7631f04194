use Rattle.std.proofs.Common.{◌≡◌, ◌≤◌, [], take}
use Rattle.schema_report.specs.Changes.{is_changed, count_parts}
use Rattle.schema_report.proofs.changes.count_changed.Given as goal

abbrev pub invariant-loop-i : goal.invariant-loop-i
invariant-loop-i g l = (l.count ≤ l.i) × (l.count ≡ count_parts (is_changed g.S.SchemaPart.name_of g.S.SchemaPart.same_kinds l.others) [] (take l.i l.parts))
