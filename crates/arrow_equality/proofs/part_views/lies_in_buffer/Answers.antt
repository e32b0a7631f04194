use Rattle.std.proofs.Common.{◌<◌, length, arith}
use Rattle.std.proofs.lemmas.Bool.Decides.{Decides-eqb}
use Rattle.arrow_parts.specs.Lent.{lent_buffers}
use Rattle.arrow_equality.proofs.LentViews.{count_lent, lies-in}
use Rattle.arrow_equality.proofs.part_views.lies_in_buffer.Goals as goal

pub returns-then-at-len : goal.returns-then-at-len
returns-then-at-len c same =
    let low : c.buffer-number.result < length (lent_buffers c.args.buffers.now) = omega (arith, c.if-number-buffers.false, count_lent c.args.buffers.now) in
    lies-in (lent_buffers c.args.buffers.now) c.args.view.now c.buffer_of-bytes.result.now c.buffer-number.result c.offset-at.result c.len-len.result c.prefix_at.result c.prefix.result c.len-len.ensures.view c.requires low c.buffer-number.ensures c.offset-at.ensures.value c.len-len.ensures.length c.buffer_of-bytes.ensures c.if-at-len.true c.prefix_at.ensures.bytes c.prefix_at.ensures.value c.prefix.ensures ((Decides-eqb _ _).0 same)
