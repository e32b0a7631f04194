use Rattle.std.proofs.Common.{◌≤◌, ◌<◌, arith}
use Rattle.polars_arrays_views.specs.Views.{view_len}
use Rattle.arrow_arrays.proofs.ViewRows.{long-leads, short-leads}
use Rattle.arrow_parts.specs.Lent.{lent_buffers}
use Rattle.arrow_equality.proofs.part_views.leads_to_row.Goals as goal

pub returns-then-len-le12 : goal.returns-then-len-le12
returns-then-len-le12 c padded =
    let short : view_len c.args.view.now ≤ 12 = omega (arith, c.if-len-le12.true, c.len.ensures.length) in
    short-leads (lent_buffers c.args.buffers.now) c.args.view.now c.len.ensures.view short (c.is_padded.ensures padded)

pub returns-then-is_not_negative : goal.returns-then-is_not_negative
returns-then-is_not_negative c lies =
    let long : 12 < view_len c.args.view.now = omega (arith, c.if-len-le12.false, c.len.ensures.length) in
    long-leads (lent_buffers c.args.buffers.now) c.args.view.now c.len.ensures.view long (c.lies_in_buffer.ensures lies) (c.is_not_negative.ensures c.if-is_not_negative.true)
