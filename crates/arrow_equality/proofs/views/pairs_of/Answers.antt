use Rattle.std.proofs.Common.{refl}
use Rattle.arrow_equality.proofs.LentViews.{row-views}
use Rattle.arrow_equality.proofs.views.pairs_of.Goals as goal

pub invariant_of-result : goal.invariant_of-result
invariant_of-result c = record {
  left_views = row-views c.args.left.now c.args.texts c.args.left.now.rows (c.if-not-are_part_views.ensures refl) refl;
  right_views = row-views c.args.right.now c.args.texts c.args.left.now.rows (c.if-not-are_part_views-2.ensures refl) c.if-left-right.false;
}
