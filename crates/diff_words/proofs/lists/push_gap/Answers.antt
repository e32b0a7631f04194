use Rattle.std.proofs.Common.{rules}
use Rattle.diff_words.proofs.lists.push_gap.Goals as goal

pub returns-else-n-gt0 : goal.returns-else-n-gt0
returns-else-n-gt0 c = search rules
