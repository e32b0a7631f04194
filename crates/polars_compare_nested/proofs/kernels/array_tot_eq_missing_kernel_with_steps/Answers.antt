use Rattle.std.proofs.Common.{true}
use Rattle.polars_compare_leaves.specs.Sameness.{same_leaf}
use Rattle.polars_compare_nested.proofs.Headline.{result-same, result-trees}
use Rattle.polars_compare_nested.proofs.Trees.{steps-equality}
use Rattle.polars_compare_nested.proofs.kernels.array_tot_eq_missing_kernel_with_steps.Goals as goal

pub returns-clause-trees : goal.returns-clause-trees
returns-clause-trees c =
    result-trees true same_leaf c.args.left.now c.args.right.now c.equal_windows.result steps-equality
    (result-same same_leaf c.args.left.now c.args.right.now c.equal_windows.result (rw c.len.ensures at c.equal_windows.ensures.told))
