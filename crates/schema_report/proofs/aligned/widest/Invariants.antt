use Rattle.std.proofs.Common.{◌≡◌}
use Rattle.schema_report.specs.Aligned.{widest}
use Rattle.schema_report.proofs.aligned.widest.Given as goal

abbrev pub invariant-loop-i : goal.invariant-loop-i
invariant-loop-i l = l.most ≡ widest l.column l.table.rows l.i
