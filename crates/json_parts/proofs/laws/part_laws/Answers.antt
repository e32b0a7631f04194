use Rattle.json_parts.proofs.NumberLemmas.{numbers_below}
use Rattle.json_parts.proofs.laws.part_laws.Goals as goal

pub returns : goal.returns
returns c = numbers_below
