use Rattle.std.proofs.Common.{rules}
use Rattle.diff_keys.proofs.outcome.outcome_of.Goals as goal

pub returns : goal.returns
returns c = search rules
