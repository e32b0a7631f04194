use Rattle.std.proofs.Common.{rules}
use Rattle.json_changes.proofs.rules.Tolerance.allows.Goals as goal

pub returns-then-begins : goal.returns-then-begins
returns-then-begins c = search rules
