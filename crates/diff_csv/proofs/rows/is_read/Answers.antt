use Rattle.std.proofs.Common.{rules}
use Rattle.diff_csv.proofs.rows.is_read.Goals as goal

pub returns-in-Some : goal.returns-in-Some
returns-in-Some c = search rules
