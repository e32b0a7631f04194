use Rattle.std.proofs.Common.{rules, arith}
use Rattle.diff_widths.proofs.CutLemmas.{all_counted, counted, fits_more}
use Rattle.diff_widths.proofs.cut.width_of.Goals as goal

pub overflow_add-total : goal.overflow_add-total
overflow_add-total c =
    let more = fits_more c.args.text.now c.loop-c.c-index c.c-item.result c.loop-c.total (omega arith) c.c-item.is c.loop-c.invariant in
    omega (arith, more, c.char_columns-total.ensures.value)

pub loop-c-preserved : goal.loop-c-preserved
loop-c-preserved c = search (rules, counted c.args.text.now c.loop-c.c-index c.c-item.result c.loop-c.total _ (omega arith) c.c-item.is c.loop-c.invariant)

pub returns : goal.returns
returns c = all_counted c.args.text.now c.loop-c.c-index c.loop-c.total _ (omega arith) c.loop-c.invariant
