use Rattle.std.proofs.Common.{false}
use Rattle.polars_compare_nested.proofs.Headline.{result-other, result-trees}
use Rattle.polars_compare_nested.proofs.kernels.array_tot_ne_missing_kernel_counted.Goals as goal

pub returns-clause-told : goal.returns-clause-told
returns-clause-told g c =
    result-other g.K.LeafKernel.agree c.args.left.now c.args.right.now c.in_ok-same.same c.not.result (rw c.len.ensures at c.in_ok-same.ensures.told) c.not.ensures

pub returns-clause-trees : goal.returns-clause-trees
returns-clause-trees g c =
    λ equality. result-trees false g.K.LeafKernel.agree c.args.left.now c.args.right.now c.not.result equality (returns-clause-told g c)
