use Rattle.std.proofs.Common.{length}
use Rattle.json_paths.proofs.pattern.+do_begin.Given as goal

abbrev pub decreases-do_begin : goal.decreases-do_begin
decreases-do_begin l = length l.steps.now
