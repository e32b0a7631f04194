use Rattle.schema_values.proofs.NumberLemmas.{one_number}
use Rattle.schema_values.proofs.laws.number_laws.Goals as goal

pub returns : goal.returns
returns c = one_number
