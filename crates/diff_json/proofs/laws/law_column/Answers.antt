use Rattle.diff_json.proofs.LineLaws.{column_law}
use Rattle.diff_json.proofs.PlainLaws.{column_line}
use Rattle.diff_json.proofs.laws.law_column.Goals as goal

pub returns-clause-line : goal.returns-clause-line
returns-clause-line c = column_line

pub returns-clause-read : goal.returns-clause-read
returns-clause-read c = column_law
