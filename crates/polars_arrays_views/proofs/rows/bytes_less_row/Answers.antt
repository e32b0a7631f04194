use Rattle.std.proofs.Common.{◌∙◌, sym, arith}
use Rattle.polars_arrays_flat.specs.ByteOrder.{bytes_lt}
use Rattle.polars_arrays_views.proofs.GoodViews.{length_of_row, short_row}
use Rattle.polars_arrays_views.proofs.LessRows.{prefix_of_view, prefix_of_scalar, prefixes_decide}
use Rattle.polars_arrays_views.proofs.rows.bytes_less_row.Goals as goal

pub returns-then-max-le12 : goal.returns-then-max-le12
returns-then-max-le12 c =
    let v = c.view-v.ensures in
    let w = c.view-w.ensures in
    let n = c.len-2.ensures.length in
    let first = sym (short_row _ _ (omega (arith, length_of_row _ _ _ (v.good (omega arith)) (v.row (omega arith))))) ∙ v.row (omega arith) in
    let second = sym (short_row _ _ (omega arith)) ∙ w.row in
    c.inlined_less.ensures ∙ (λ i. bytes_lt (first i) (second i))

pub returns-then-p-q : goal.returns-then-p-q
returns-then-p-q c =
    let w = c.view-w.ensures in
    prefixes_decide _ _ _ _ (prefix_of_scalar _ _ _ c.view-v.ensures c.prefix-p.ensures) (prefix_of_view _ _ _ _ w.good w.row c.prefix-q.ensures) c.if-p-q.true

pub returns : goal.returns
returns c =
    c.bytes_less.ensures ∙ (λ i. bytes_lt (c.bytes.ensures i) (c.value.ensures i))
