use Rattle.std.proofs.Common.{refl}
use Rattle.arrow_parts.specs.Lent.{places_from}
use Rattle.arrow_equality.proofs.StringColumns.{pair-in}
use Rattle.arrow_equality.proofs.strings.pairs_of.Goals as goal

pub invariant_of-result : goal.invariant_of-result
invariant_of-result g c = record {
  left_in = pair-in c.args.left.now c.args.left.now.rows (places_from c.args.left.now.base g.O.Number.value c.args.left_offsets.now) c.args.texts c.in_ok-left_strings.left_strings c.in_ok-left_strings.ensures.strings c.in_ok-left_strings.ensures.good refl;
  right_in = pair-in c.args.right.now c.args.left.now.rows (places_from c.args.right.now.base g.O.Number.value c.args.right_offsets.now) c.args.texts c.in_ok-right_strings.right_strings c.in_ok-right_strings.ensures.strings c.in_ok-right_strings.ensures.good c.if-left-right.false;
}
