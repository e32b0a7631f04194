use Rattle.std.proofs.Common.{length}
use Rattle.json_changes.proofs.rules.+is_tolerated.Given as goal

abbrev pub decreases-is_tolerated : goal.decreases-is_tolerated
decreases-is_tolerated l = length l.tolerances.now
