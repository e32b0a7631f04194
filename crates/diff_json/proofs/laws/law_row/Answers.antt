use Rattle.diff_json.proofs.LineLaws.{added_law, removed_law}
use Rattle.diff_json.proofs.PlainLaws.{added_line, removed_line}
use Rattle.diff_json.proofs.laws.law_row.Goals as goal

pub returns-clause-removed_line : goal.returns-clause-removed_line
returns-clause-removed_line c = removed_line

pub returns-clause-added_line : goal.returns-clause-added_line
returns-clause-added_line c = added_line

pub returns-clause-removed : goal.returns-clause-removed
returns-clause-removed c = removed_law

pub returns-clause-added : goal.returns-clause-added
returns-clause-added c = added_law
