use Rattle.std.proofs.Common.{ap}
use Rattle.std.specs.Ordering.{is_lt}
use Rattle.diff_merge.proofs.KeyOrderLemmas.{keys_cmp}
use Rattle.diff_merge.proofs.OrderLemmas.{key_order, tells_keys}
use Rattle.diff_merge.proofs.laws.law_order.Goals as goal

pub returns-clause-order : goal.returns-clause-order
returns-clause-order c = key_order

pub returns-clause-tells : goal.returns-clause-tells
returns-clause-tells c = tells_keys

pub returns-clause-cells : goal.returns-clause-cells
returns-clause-cells c = λ columns a b. ap is_lt (keys_cmp columns a b)
