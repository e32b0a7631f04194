use Rattle.diff_markdown.proofs.InsideLaws.{safe_inside}
use Rattle.diff_markdown.proofs.ValueLaws.{value_kept}
use Rattle.diff_markdown.proofs.laws.markdown_laws.Goals as goal

pub returns-clause-inside : goal.returns-clause-inside
returns-clause-inside c = safe_inside

pub returns-clause-values : goal.returns-clause-values
returns-clause-values c = value_kept
