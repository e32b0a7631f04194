use Rattle.diff_json.proofs.LineLaws.{pair_law}
use Rattle.diff_json.proofs.PlainLaws.{pair_line}
use Rattle.diff_json.proofs.laws.law_pair.Goals as goal

pub returns-clause-read : goal.returns-clause-read
returns-clause-read c = pair_law

pub returns-clause-line : goal.returns-clause-line
returns-clause-line c = pair_line
