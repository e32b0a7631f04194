use Rattle.std.proofs.Common.{rules}
use Rattle.json_tolerances.proofs.closeness.Margin.allows.Goals as goal

pub returns-in-Relative-clause-close : goal.returns-in-Relative-clause-close
returns-in-Relative-clause-close c = search rules
