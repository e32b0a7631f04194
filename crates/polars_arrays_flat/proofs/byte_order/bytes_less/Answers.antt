use Rattle.std.proofs.Common.{◌∙◌, arith}
use Rattle.polars_arrays_flat.proofs.ByteParts.{ends_decide, few_decide}
use Rattle.polars_arrays_flat.proofs.byte_order.bytes_less.Goals as goal

pub returns-then-common-ge4 : goal.returns-then-common-ge4
returns-then-common-ge4 c =
    let p = c.ends-p.ensures in
    let q = c.ends-q.ensures in
    c.pair_less.ensures
    ∙ ends_decide c.min-common.result c.args.left.now c.args.right.now _ _ c.if-common-ge4.true (omega arith) c.min-common.ensures (p.value, p.small, p.bytes) (q.value, q.small, q.bytes)

pub returns : goal.returns
returns c =
    c.pair_less-2.ensures
    ∙ few_decide c.min-common.result c.args.left.now c.args.right.now _ _ (omega arith) c.min-common.ensures c.few-p.ensures.bytes c.few-q.ensures.bytes (c.from.ensures ∙ c.few-p.ensures.value) (c.from-2.ensures ∙ c.few-q.ensures.value)
