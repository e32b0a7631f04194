use Rattle.std.proofs.Common.{not, false}
use Rattle.polars_compute_reductions.specs.Bitwise.{trailing_run}
use Rattle.polars_compute_reductions.proofs.TruthRows.{are-counts, one_trailing_zeros}
use Rattle.polars_compute_reductions.proofs.bitwise.BooleanArrayBitwiseKernel.trailing_zeros.Goals as goal

pub returns : goal.returns
returns c = are-counts (trailing_run not) false one_trailing_zeros c.args.self.now c.count_truth_rows.result c.count_truth_rows.ensures
