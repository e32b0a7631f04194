use Rattle.std.proofs.Common.{rules}
use Rattle.polars_compare_leaves.proofs.view_comparison.UnequalViewComparison.guess.Goals as goal

pub returns : goal.returns
returns c = search rules
