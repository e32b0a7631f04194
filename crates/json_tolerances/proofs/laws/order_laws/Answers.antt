use Rattle.json_tolerances.specs.OrderLaws.{equal_are_not_less, less_one_way, less_passes_on}
use Rattle.json_tolerances.proofs.laws.order_laws.Goals as goal

pub returns-clause-passes_on : goal.returns-clause-passes_on
returns-clause-passes_on c = less_passes_on

pub returns-clause-equal : goal.returns-clause-equal
returns-clause-equal c = equal_are_not_less

pub returns-clause-one_way : goal.returns-clause-one_way
returns-clause-one_way c = less_one_way
