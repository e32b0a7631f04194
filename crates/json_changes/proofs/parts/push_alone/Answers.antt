use Rattle.std.proofs.Common.{rules}
use Rattle.json_changes.proofs.parts.push_alone.Goals as goal

pub returns-in-Left : goal.returns-in-Left
returns-in-Left c = search rules
