use Rattle.std.proofs.Common.{true}
use Rattle.polars_compute_reductions.specs.Bitwise.{trailing_run}
use Rattle.polars_compute_reductions.proofs.TruthRows.{are-counts, one_trailing_ones}
use Rattle.polars_compute_reductions.proofs.bitwise.BooleanArrayBitwiseKernel.trailing_ones.Goals as goal

pub returns : goal.returns
returns c = are-counts (trailing_run (λ b. b)) true one_trailing_ones c.args.self.now c.count_truth_rows.result c.count_truth_rows.ensures
