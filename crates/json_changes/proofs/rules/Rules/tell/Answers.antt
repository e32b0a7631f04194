use Rattle.std.proofs.Common.{rules}
use Rattle.json_changes.proofs.rules.Rules.tell.Goals as goal

pub returns-then-not-is_nothing : goal.returns-then-not-is_nothing
returns-then-not-is_nothing c = search rules
