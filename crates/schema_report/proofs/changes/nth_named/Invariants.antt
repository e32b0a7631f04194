use Rattle.std.proofs.Common.{◌≡◌, drop}
use Rattle.schema_report.specs.Changes.{nth_named}
use Rattle.schema_report.proofs.changes.nth_named.Given as goal

abbrev pub invariant-loop-part : goal.invariant-loop-part
invariant-loop-part g l = nth_named g.S.SchemaPart.name_of l.name l.fn.n l.parts ≡ nth_named g.S.SchemaPart.name_of l.name l.left (drop l.part-index l.parts)
