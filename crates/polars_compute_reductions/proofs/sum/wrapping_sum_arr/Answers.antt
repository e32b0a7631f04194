use Rattle.std.proofs.Common.{rules}
use Rattle.polars_compute_reductions.proofs.sum.wrapping_sum_arr.Goals as goal

pub returns-in-Some : goal.returns-in-Some
returns-in-Some c = search rules
