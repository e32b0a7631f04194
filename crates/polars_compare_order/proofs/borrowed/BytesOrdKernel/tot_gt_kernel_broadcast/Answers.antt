use Rattle.std.proofs.Common.{◌∙◌, sym, ap, map}
use Rattle.std.proofs.lemmas.Result.{MatchResult-weaker}
use Rattle.polars_arrays_flat.specs.Row.{Bytes}
use Rattle.polars_compare_leaves.specs.Order.{row_greater}
use Rattle.polars_compare_order.proofs.Ordered.{ordered-constant}
use Rattle.polars_compare_order.proofs.borrowed.BytesOrdKernel.tot_gt_kernel_broadcast.Goals as goal

pub returns : goal.returns
returns g c =
    MatchResult-weaker c.compare_bytes.result c.compare_bytes.ensures
    (λ bits e. ordered-constant row_greater _ _ _ (Bytes c.args.other.now) bits (e ∙ ap (map (λ row. row_greater row (Bytes c.args.other.now))) (sym (g.met.Self.ByteRows.slots_law c.args.self.now))))
    (λ error m. m)
