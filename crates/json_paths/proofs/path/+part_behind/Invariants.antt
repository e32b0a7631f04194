use Rattle.std.proofs.Common.{length}
use Rattle.json_paths.proofs.path.+part_behind.Given as goal

abbrev pub decreases-part_behind : goal.decreases-part_behind
decreases-part_behind l = length l.steps.now
