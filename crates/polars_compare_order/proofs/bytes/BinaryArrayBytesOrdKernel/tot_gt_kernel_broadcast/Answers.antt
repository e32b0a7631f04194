use Rattle.std.proofs.lemmas.Result.{MatchResult-weaker}
use Rattle.polars_arrays_flat.specs.Row.{Bytes}
use Rattle.polars_compare_leaves.specs.Order.{row_greater}
use Rattle.polars_compare_order.proofs.Ordered.{ordered-constant}
use Rattle.polars_compare_order.proofs.bytes.BinaryArrayBytesOrdKernel.tot_gt_kernel_broadcast.Goals as goal

pub returns : goal.returns
returns g c =
    MatchResult-weaker c.compare_bytes.result c.compare_bytes.ensures
    (λ bits e. ordered-constant row_greater _ _ _ (Bytes c.args.other.now) bits (rw c.lent.ensures at e))
    (λ error m. m)
