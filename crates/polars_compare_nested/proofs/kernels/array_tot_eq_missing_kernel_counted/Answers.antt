use Rattle.std.proofs.Common.{true}
use Rattle.polars_compare_nested.proofs.Headline.{result-same, result-trees}
use Rattle.polars_compare_nested.proofs.kernels.array_tot_eq_missing_kernel_counted.Goals as goal

pub returns-clause-told : goal.returns-clause-told
returns-clause-told g c =
    result-same g.K.LeafKernel.agree c.args.left.now c.args.right.now c.equal_windows.result (rw c.len.ensures at c.equal_windows.ensures.told)

pub returns-clause-trees : goal.returns-clause-trees
returns-clause-trees g c =
    λ equality. result-trees true g.K.LeafKernel.agree c.args.left.now c.args.right.now c.equal_windows.result equality (returns-clause-told g c)
