use Rattle.diff_lines.specs.PartLaws.{part_numbers}
use Rattle.diff_lines.proofs.parts.part_of.Goals as goal

pub returns-clause-numbers : goal.returns-clause-numbers
returns-clause-numbers c = part_numbers _ _ _ c.requires c.get.ensures
