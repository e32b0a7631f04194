use Rattle.std.proofs.Common.{rules}
use Rattle.diff_csv.proofs.RowLemmas.{cells_count}
use Rattle.diff_csv.proofs.rows.CellsStringList.count.Goals as goal

pub returns : goal.returns
returns c = search (rules, cells_count)
