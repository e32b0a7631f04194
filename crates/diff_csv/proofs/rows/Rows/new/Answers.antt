use Rattle.std.proofs.Common.{ap, length}
use Rattle.diff_csv.proofs.RowLemmas.{no_numbers}
use Rattle.diff_csv.proofs.rows.Rows.new.Goals as goal

pub returns : goal.returns
returns c = λ columns keys part. record { cells = c.in_ok-cells.ensures; lines = ap length c.new-lines.ensures.items; numbers = no_numbers columns keys part _ c.new-numbers.ensures.items }
