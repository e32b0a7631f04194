use Rattle.std.proofs.Common.{not, false}
use Rattle.polars_compute_reductions.specs.Bitwise.{leading_run}
use Rattle.polars_compute_reductions.proofs.TruthRows.{are-counts, one_leading_zeros}
use Rattle.polars_compute_reductions.proofs.bitwise.BooleanArrayBitwiseKernel.leading_zeros.Goals as goal

pub returns : goal.returns
returns c = are-counts (leading_run not) false one_leading_zeros c.args.self.now c.count_truth_rows.result c.count_truth_rows.ensures
