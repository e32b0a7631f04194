use Rattle.std.proofs.Common.{count_by, not, false}
use Rattle.polars_compute_reductions.proofs.TruthRows.{are-counts, one_count_zeros}
use Rattle.polars_compute_reductions.proofs.bitwise.BooleanArrayBitwiseKernel.count_zeros.Goals as goal

pub returns : goal.returns
returns c = are-counts (count_by not) false one_count_zeros c.args.self.now c.count_truth_rows.result c.count_truth_rows.ensures
