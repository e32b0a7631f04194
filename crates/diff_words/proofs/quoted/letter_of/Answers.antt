use Rattle.std.proofs.Common.{rules}
use Rattle.diff_words.proofs.quoted.letter_of.Goals as goal

pub returns-in-34 : goal.returns-in-34
returns-in-34 c = search rules
