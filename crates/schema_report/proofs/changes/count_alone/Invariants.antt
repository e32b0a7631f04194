use Rattle.std.proofs.Common.{◌≡◌, ◌≤◌, [], take}
use Rattle.schema_report.specs.Changes.{is_alone, count_parts}
use Rattle.schema_report.proofs.changes.count_alone.Given as goal

abbrev pub invariant-loop-i : goal.invariant-loop-i
invariant-loop-i g l = (l.count ≤ l.i) × (l.count ≡ count_parts (is_alone g.S.SchemaPart.name_of l.others) [] (take l.i l.parts))
