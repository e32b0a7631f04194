use Rattle.diff_run.proofs.SideLemmas.{columns_fault}
use Rattle.diff_run.proofs.heads.matched.Goals as goal

pub returns-in-Err-clause-texts : goal.returns-in-Err-clause-texts
returns-in-Err-clause-texts g c = λ left_text right_text opened_left opened_right.
    rw c.fault_of.ensures
    (columns_fault c.args.options.now left_text right_text _ _ _
    (λ records all. c.in_ok-left_names.ensures c.args.options.now.csv left_text records opened_left all)
    (λ records all. c.in-Ok.ensures c.args.options.now.csv right_text records opened_right all) c.in-Err.ensures.layout)
