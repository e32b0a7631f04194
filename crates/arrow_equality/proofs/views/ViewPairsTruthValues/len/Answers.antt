use Rattle.std.proofs.Common.{sym}
use Rattle.arrow_parts.specs.Lent.{lent_buffers}
use Rattle.arrow_equality.proofs.LentViews.{count-same}
use Rattle.arrow_equality.proofs.views.ViewPairsTruthValues.len.Goals as goal

pub returns : goal.returns
returns c =
    sym (count-same (lent_buffers c.args.self.now.left_buffers.now) (lent_buffers c.args.self.now.right_buffers.now) c.args.self.now.left.now c.args.self.now.right.now c.args.self.now.n)
