use Rattle.std.proofs.Common.{rules}
use Rattle.polars_compute_reductions.proofs.fold.fold_under.Goals as goal

pub returns-in-Some : goal.returns-in-Some
returns-in-Some c = search rules
