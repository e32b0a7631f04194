use Rattle.std.proofs.Common.{◌∙◌, ap, length}
use Rattle.arrow_parts.specs.Lent.{buffers_in}
use Rattle.arrow_equality.proofs.LentViews.{count-same}
use Rattle.arrow_equality.proofs.views.compare_views.Goals as goal

pub compare_joined-requires-clause-left : goal.compare_joined-requires-clause-left
compare_joined-requires-clause-left c =
    ap length c.in-Some.ensures.pairs ∙ count-same (buffers_in c.args.left.now) (buffers_in c.args.right.now) c.args.left.now.u8s.now c.args.right.now.u8s.now c.args.left.now.rows

pub compare_joined-requires-clause-right : goal.compare_joined-requires-clause-right
compare_joined-requires-clause-right c =
    ap length c.in-Some.ensures.pairs
    ∙ count-same (buffers_in c.args.left.now) (buffers_in c.args.right.now) c.args.left.now.u8s.now c.args.right.now.u8s.now c.args.left.now.rows
    ∙ c.in-Some.ensures.one_length
