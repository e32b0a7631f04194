use Rattle.diff_sorted.proofs.run.run_sorted.Goals as goal

pub returns-in-Ok-clause-report : goal.returns-in-Ok-clause-report
returns-in-Ok-clause-report g c = λ left_text right_text el er.
    (c.in_ok-report.report.text.items, rw c.deref.ensures.value at c.in-Ok.ensures.bytes, c.in_ok-report.ensures left_text right_text el er)
