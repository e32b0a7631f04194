use Rattle.std.proofs.Common.{length}
use Rattle.json_paths.proofs.pattern.+do_go_on.Given as goal

abbrev pub decreases-do_go_on : goal.decreases-do_go_on
decreases-do_go_on l = length l.steps.now
