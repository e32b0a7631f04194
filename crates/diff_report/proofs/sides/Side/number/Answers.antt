use Rattle.std.proofs.Common.{rules}
use Rattle.diff_report.proofs.sides.Side.number.Goals as goal

pub returns-in-None : goal.returns-in-None
returns-in-None c = search rules
