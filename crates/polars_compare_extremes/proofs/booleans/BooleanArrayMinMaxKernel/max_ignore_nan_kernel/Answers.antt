use Rattle.std.proofs.Common.{arith}
use Rattle.polars_compare_extremes.proofs.Truths.{greatest-counted}
use Rattle.polars_compare_extremes.proofs.booleans.BooleanArrayMinMaxKernel.max_ignore_nan_kernel.Goals as goal

pub returns : goal.returns
returns c =
    greatest-counted c.args.self.now.validity c.args.self.now.values c.present_count.result c.true_count.result (cc) (cc) (omega arith)
