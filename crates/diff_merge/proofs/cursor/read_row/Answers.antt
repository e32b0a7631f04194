use Rattle.std.proofs.Common.{refl}
use Rattle.diff_merge.proofs.cursor.read_row.Goals as goal

pub returns-in-Err : goal.returns-in-Err
returns-in-Err g c = λ options text rows h. (refl, c.in-Err.ensures.told options text rows h)
