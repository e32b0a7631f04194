use Rattle.std.proofs.Common.{rules}
use Rattle.polars_compare_extremes.proofs.numbers.RefSliceMinMaxKernel.min_ignore_nan_kernel.Goals as goal

pub returns : goal.returns
returns c = search rules
