use Rattle.json_plain.proofs.PlainLaws.{plain_high, plain_low}
use Rattle.json_plain.proofs.ValueLaws.{value_kept}
use Rattle.json_plain.proofs.laws.plain_laws.Goals as goal

pub returns-clause-high : goal.returns-clause-high
returns-clause-high c = plain_high

pub returns-clause-low : goal.returns-clause-low
returns-clause-low c = plain_low

pub returns-clause-values : goal.returns-clause-values
returns-clause-values c = value_kept
