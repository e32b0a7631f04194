use Rattle.std.proofs.Common.{◌∙◌, refl}
use Rattle.diff_sorted.proofs.run.outcome_of.Goals as goal

pub returns : goal.returns
returns c = λ left_rows right_rows s d h. c.outcome_by.ensures ∙ rw (c.is_same.ensures left_rows right_rows s d h, c.are_shared.ensures) refl
