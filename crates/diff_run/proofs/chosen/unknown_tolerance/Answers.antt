use Rattle.diff_run.proofs.chosen.unknown_tolerance.Goals as goal

pub returns-in-Some : goal.returns-in-Some
returns-in-Some c = rw c.in-Some.is c.first_unknown.ensures
