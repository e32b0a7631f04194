use Rattle.std.proofs.Common.{◌≡◌, take}
use Rattle.schema_report.specs.Changes.{count_named}
use Rattle.schema_report.proofs.changes.count_named.Given as goal

abbrev pub invariant-loop-part : goal.invariant-loop-part
invariant-loop-part g l = l.count ≡ count_named g.S.SchemaPart.name_of l.name (take l.part-index l.parts)
