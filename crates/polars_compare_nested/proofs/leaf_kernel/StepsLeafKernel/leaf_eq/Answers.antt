use Rattle.std.proofs.Common.{rules}
use Rattle.polars_compare_nested.proofs.leaf_kernel.StepsLeafKernel.leaf_eq.Goals as goal

pub returns-clause-counted : goal.returns-clause-counted
returns-clause-counted c = search rules
