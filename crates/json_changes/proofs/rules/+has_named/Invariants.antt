use Rattle.std.proofs.Common.{length}
use Rattle.json_changes.proofs.rules.+has_named.Given as goal

abbrev pub decreases-has_named : goal.decreases-has_named
decreases-has_named l = length l.patterns.now
