use Rattle.std.proofs.Common.{◌≡◌, ◌++◌, [], get_or}
use Rattle.schema_report.specs.Aligned.{line_to}
use Rattle.schema_report.proofs.aligned.push_line.Given as goal

abbrev pub invariant-loop-column : goal.invariant-loop-column
invariant-loop-column l = l.out.items ≡ l.fn.out.items ++ line_to l.table.rows l.table.width (get_or l.table.rows l.i []) l.column
