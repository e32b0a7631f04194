use Rattle.std.proofs.Common.{true}
use Rattle.polars_compare_nested.proofs.Headline.{result-missing}
use Rattle.polars_compare_nested.proofs.kernels.array_tot_eq_missing_kernel.Goals as goal

pub returns-clause-missing : goal.returns-clause-missing
returns-clause-missing c =
    result-missing true c.args.left.now c.args.right.now c.array_tot_eq_missing_kernel_with_steps.result c.requires.one_type c.requires.one_length c.array_tot_eq_missing_kernel_with_steps.ensures.trees
