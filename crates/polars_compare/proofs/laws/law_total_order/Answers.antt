use Rattle.polars_compare.proofs.Orders.{order-one, order-at_most, order-transitive}
use Rattle.polars_compare.proofs.Trees.{same-told}
use Rattle.polars_compare.proofs.laws.law_total_order.Goals as goal

pub returns : goal.returns
returns c = record {
  same = same-told;
  one_of_three = order-one;
  at_most = order-at_most;
  transitive = order-transitive;
}
