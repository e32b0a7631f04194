use Rattle.diff_page.proofs.NoTag.{no_tag}
use Rattle.diff_page.proofs.laws.law_no_tag.Goals as goal

pub returns : goal.returns
returns c = no_tag
