use Rattle.std.proofs.Common.{rules}
use Rattle.diff_words.proofs.cells.is_null.Goals as goal

pub returns-in-Some : goal.returns-in-Some
returns-in-Some c = search rules
