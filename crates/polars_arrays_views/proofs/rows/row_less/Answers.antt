use Rattle.std.proofs.Common.{[], ◌∙◌, sym, arith}
use Rattle.std.specs.Prelude.{slice_index_or}
use Rattle.polars_arrays_flat.specs.ByteOrder.{bytes_lt}
use Rattle.polars_arrays_views.specs.Parts.{view_strings}
use Rattle.polars_arrays_views.proofs.Counts.{not_counted, one_counted}
use Rattle.polars_arrays_views.proofs.GoodViews.{length_of_row, short_row}
use Rattle.polars_arrays_views.proofs.LessRows.{prefix_of_view, prefixes_decide, not_followed-other_prefix, followed-same_prefix, not_followed-both_short}
use Rattle.polars_arrays_views.proofs.rows.row_less.Goals as goal

pub inlined_less-requires-clause-zeros : goal.inlined_less-requires-clause-zeros
inlined_less-requires-clause-zeros c = c.view-v.ensures.good.short (omega (arith, c.len.ensures.length, c.len-2.ensures.length))

pub inlined_less-requires-clause-other_zeros : goal.inlined_less-requires-clause-other_zeros
inlined_less-requires-clause-other_zeros c = c.view-w.ensures.good.short (omega (arith, c.len.ensures.length, c.len-2.ensures.length))

pub returns-then-max-le12-clause-less : goal.returns-then-max-le12-clause-less
returns-then-max-le12-clause-less c =
    let v = c.view-v.ensures in
    let w = c.view-w.ensures in
    let first = sym (short_row _ _ (omega (arith, c.len.ensures.length, c.len-2.ensures.length))) ∙ v.row in
    let second = sym (short_row _ _ (omega (arith, c.len.ensures.length, c.len-2.ensures.length))) ∙ w.row in
    c.inlined_less.ensures ∙ (λ i. bytes_lt (first i) (second i))

pub returns-then-max-le12-clause-counted : goal.returns-then-max-le12-clause-counted
returns-then-max-le12-clause-counted c =
    let xs = slice_index_or (view_strings c.args.left.now) c.args.i [] in
    let ys = slice_index_or (view_strings c.args.right.now) c.args.j [] in
    let v = c.view-v.ensures in
    let w = c.view-w.ensures in
    let first = length_of_row _ _ xs v.good v.row in
    let second = length_of_row _ _ ys w.good w.row in
    not_counted _ _ (not_followed-both_short xs ys (omega (arith, c.len.ensures.length, c.len-2.ensures.length)))

pub returns-then-p-q-clause-less : goal.returns-then-p-q-clause-less
returns-then-p-q-clause-less c =
    let v = c.view-v.ensures in
    let w = c.view-w.ensures in
    prefixes_decide _ _ _ _ (prefix_of_view _ _ _ _ v.good v.row c.prefix-p.ensures) (prefix_of_view _ _ _ _ w.good w.row c.prefix-q.ensures) c.if-p-q.true

pub returns-then-p-q-clause-counted : goal.returns-then-p-q-clause-counted
returns-then-p-q-clause-counted c =
    let v = c.view-v.ensures in
    let w = c.view-w.ensures in
    not_counted _ _ (not_followed-other_prefix _ _ _ _ (prefix_of_view _ _ _ _ v.good v.row c.prefix-p.ensures) (prefix_of_view _ _ _ _ w.good w.row c.prefix-q.ensures) c.if-p-q.true)

pub returns-clause-less : goal.returns-clause-less
returns-clause-less c =
    c.bytes_less.ensures ∙ (λ i. bytes_lt (c.value.ensures i) (c.value-2.ensures i))

pub returns-clause-counted : goal.returns-clause-counted
returns-clause-counted c =
    let xs = slice_index_or (view_strings c.args.left.now) c.args.i [] in
    let ys = slice_index_or (view_strings c.args.right.now) c.args.j [] in
    let v = c.view-v.ensures in
    let w = c.view-w.ensures in
    let first = length_of_row _ _ xs v.good v.row in
    let second = length_of_row _ _ ys w.good w.row in
    one_counted _ _ _ (followed-same_prefix _ _ xs ys (prefix_of_view _ _ _ _ v.good v.row c.prefix-p.ensures) (prefix_of_view _ _ _ _ w.good w.row c.prefix-q.ensures) c.if-p-q.false (omega (arith, c.len.ensures.length, c.len-2.ensures.length))) c.add.ensures
