use Rattle.std.proofs.Common.{rules}
use Rattle.diff_report.proofs.sides.Sides.compared_right.Goals as goal

pub returns-in-Some-clause-rows : goal.returns-in-Some-clause-rows
returns-in-Some-clause-rows c = search rules
