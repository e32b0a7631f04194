use Rattle.std.proofs.Common.{true}
use Rattle.polars_compute_reductions.specs.Bitwise.{leading_run}
use Rattle.polars_compute_reductions.proofs.TruthRows.{are-counts, one_leading_ones}
use Rattle.polars_compute_reductions.proofs.bitwise.BooleanArrayBitwiseKernel.leading_ones.Goals as goal

pub returns : goal.returns
returns c = are-counts (leading_run (λ b. b)) true one_leading_ones c.args.self.now c.count_truth_rows.result c.count_truth_rows.ensures
