use Rattle.json_tolerances.proofs.ClosenessLemmas.{equal_close, only_equal, symmetric}
use Rattle.json_tolerances.proofs.laws.closeness_laws.Goals as goal

pub returns-clause-symmetric : goal.returns-clause-symmetric
returns-clause-symmetric c = symmetric

pub returns-clause-equal_are_close : goal.returns-clause-equal_are_close
returns-clause-equal_are_close c = equal_close

pub returns-clause-only_equal_within_zero : goal.returns-clause-only_equal_within_zero
returns-clause-only_equal_within_zero c = only_equal
