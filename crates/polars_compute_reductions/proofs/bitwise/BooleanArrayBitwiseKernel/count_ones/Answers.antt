use Rattle.std.proofs.Common.{count_by, true}
use Rattle.polars_compute_reductions.proofs.TruthRows.{are-counts, one_count_ones}
use Rattle.polars_compute_reductions.proofs.bitwise.BooleanArrayBitwiseKernel.count_ones.Goals as goal

pub returns : goal.returns
returns c = are-counts (count_by (λ b. b)) true one_count_ones c.args.self.now c.count_truth_rows.result c.count_truth_rows.ensures
