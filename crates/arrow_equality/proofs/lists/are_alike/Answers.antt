use Rattle.std.proofs.Common.{arith}
use Rattle.arrow_equality.proofs.LentPlaces.{length-lent}
use Rattle.arrow_equality.proofs.lists.are_alike.Goals as goal

pub are_same_places-requires-clause-left : goal.are_same_places-requires-clause-left
are_same_places-requires-clause-left g c κs within =
    (c.args.n, c.are_good.ensures c.if-not-are_good.false)

pub are_same_places-requires-clause-right : goal.are_same_places-requires-clause-right
are_same_places-requires-clause-right g c κs within =
    (c.args.n, c.are_good-else-not-are_good.ensures c.if-not-are_good-2.false)

pub returns : goal.returns
returns g c told = record {
  count = omega (arith, length-lent g.O.Number.value c.args.left.now.base c.args.left_offsets.now, c.row_count.ensures, c.if-row_count-left.false);
  one_length = c.if-left-right.false;
  good = c.are_good.ensures c.if-not-are_good.false;
  alike = c.are_same_places.ensures told;
}
