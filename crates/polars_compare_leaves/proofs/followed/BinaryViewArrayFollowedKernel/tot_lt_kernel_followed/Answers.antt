use Rattle.std.proofs.Common.{rules}
use Rattle.polars_compare_leaves.proofs.followed.BinaryViewArrayFollowedKernel.tot_lt_kernel_followed.Goals as goal

pub returns-clause-told : goal.returns-clause-told
returns-clause-told c = search rules
