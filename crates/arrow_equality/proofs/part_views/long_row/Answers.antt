use Rattle.std.proofs.Common.{◌∙◌, ap}
use Rattle.polars_arrays_views.specs.Views.{buffer_at}
use Rattle.arrow_parts.specs.Lent.{lent_buffers}
use Rattle.arrow_equality.proofs.LentViews.{row-in}
use Rattle.arrow_equality.proofs.part_views.long_row.Goals as goal

pub returns : goal.returns
returns c =
    let buffers = lent_buffers c.args.buffers.now in
    row-in buffers c.args.view.now c.buffer_of-bytes.result.now c.offset-at.result c.len.result c.requires.long c.offset-at.ensures.value c.len.ensures.length (c.buffer_of-bytes.ensures ∙ ap (buffer_at buffers) c.buffer.ensures)
