use Rattle.diff_numbers.proofs.CellLemmas.{number_not}
use Rattle.diff_numbers.proofs.cells.number_in.Goals as goal

pub returns-in_default : goal.returns-in_default
returns-in_default c = number_not c.args.cell.now c.in_default.ensures.cases.0
