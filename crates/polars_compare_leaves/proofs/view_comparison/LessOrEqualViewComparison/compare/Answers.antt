use Rattle.std.proofs.Common.{rules}
use Rattle.polars_compare_leaves.proofs.view_comparison.LessOrEqualViewComparison.compare.Goals as goal

pub returns-clause-told : goal.returns-clause-told
returns-clause-told c = search rules
