use Rattle.diff_json.proofs.LineLaws.{counts_law}
use Rattle.diff_json.proofs.PlainLaws.{counts_line}
use Rattle.diff_json.proofs.laws.law_counts.Goals as goal

pub returns-clause-line : goal.returns-clause-line
returns-clause-line c = counts_line

pub returns-clause-read : goal.returns-clause-read
returns-clause-read c = counts_law
