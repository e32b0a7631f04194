use Rattle.diff_parts.proofs.OnePart.{each_key}
use Rattle.diff_parts.proofs.laws.law_one_part.Goals as goal

pub returns : goal.returns
returns c = each_key
