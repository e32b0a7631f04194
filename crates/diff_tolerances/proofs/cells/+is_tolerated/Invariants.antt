use Rattle.std.proofs.Common.{length}
use Rattle.diff_tolerances.proofs.cells.+is_tolerated.Given as goal

abbrev pub decreases-is_tolerated : goal.decreases-is_tolerated
decreases-is_tolerated l = length l.tolerances.now
