use Rattle.std.proofs.Common.{rules}
use Rattle.diff_words.proofs.quoted.is_high_control.Goals as goal

pub returns-then-second-gt127 : goal.returns-then-second-gt127
returns-then-second-gt127 c = search rules
