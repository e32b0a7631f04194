use Rattle.std.proofs.Common.{rules}
use Rattle.polars_compare_order.proofs.kernel.TotalOrdKernel.tot_gt_kernel.Goals as goal

pub returns : goal.returns
returns c = search rules
