use Rattle.std.proofs.Common.{arith}
use Rattle.polars_compare_extremes.proofs.Truths.{least-counted}
use Rattle.polars_compare_extremes.proofs.booleans.BooleanArrayMinMaxKernel.min_ignore_nan_kernel.Goals as goal

pub returns : goal.returns
returns c =
    least-counted c.args.self.now.validity c.args.self.now.values c.present_count-present.result c.true_count.result (cc) (cc) (omega arith)
