use Rattle.diff_run.proofs.chosen.unknown_among.Goals as goal

pub returns-in-Some : goal.returns-in-Some
returns-in-Some c = rw c.in-Some.is c.name_unknown.ensures
