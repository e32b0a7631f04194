use Rattle.std.proofs.Common.{◌≡◌, ◌++◌}
use Rattle.schema_report.specs.Aligned.{lines_to}
use Rattle.schema_report.proofs.aligned.push_aligned.Given as goal

abbrev pub invariant-loop-i : goal.invariant-loop-i
invariant-loop-i l = l.out.items ≡ l.fn.out.items ++ lines_to l.table.rows l.table.width l.i
