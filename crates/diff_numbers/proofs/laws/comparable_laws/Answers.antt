use Rattle.diff_numbers.proofs.CellLemmas.{cells_tell, numbers_tell}
use Rattle.diff_numbers.proofs.laws.comparable_laws.Goals as goal

pub returns-clause-cells_tell : goal.returns-clause-cells_tell
returns-clause-cells_tell c = cells_tell

pub returns-clause-numbers_tell : goal.returns-clause-numbers_tell
returns-clause-numbers_tell c = numbers_tell
