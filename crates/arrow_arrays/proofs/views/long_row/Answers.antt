use Rattle.arrow_arrays.proofs.ViewRows.{lent-row}
use Rattle.arrow_arrays.proofs.views.long_row.Goals as goal

pub returns-clause-row : goal.returns-clause-row
returns-clause-row c = lent-row c.args.buffers.now c.args.view.now c.buffer-number.result c.offset-at.result c.len-len.result _ c.if-number-buffers.false c.requires.long c.buffer-number.ensures c.offset-at.ensures.value c.len-len.ensures.length
