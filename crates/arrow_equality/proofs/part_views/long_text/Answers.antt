use Rattle.arrow_parts.specs.Lent.{lent_buffers}
use Rattle.arrow_equality.proofs.LentViews.{stretch-text}
use Rattle.arrow_equality.proofs.part_views.long_text.Goals as goal

pub returns-then-holds_row-clause-text : goal.returns-then-holds_row-clause-text
returns-then-holds_row-clause-text c =
    stretch-text (lent_buffers c.args.buffers.now) c.args.known c.args.view.now c.requires.ascii c.requires.long (c.holds_row.ensures c.if-holds_row.true)

pub returns-in-Some-clause-text : goal.returns-in-Some-clause-text
returns-in-Some-clause-text c =
    stretch-text (lent_buffers c.args.buffers.now) c.in-Some.stretch c.args.view.now c.in-Some.ensures.ascii c.requires.long c.in-Some.ensures.row
