use Rattle.std.proofs.lemmas.Result.{err_from_is_err_and}
use Rattle.document_run.proofs.SideLemmas.{report_is, rows_fault}
use Rattle.document_run.proofs.run.report_on.Goals as goal

pub returns-in_err-report : goal.returns-in_err-report
returns-in_err-report g c =
    let p = err_from_is_err_and c.from_residual-in_err-report.result c.from_residual-in_err-report.ensures.1 in
    rw (p.1, p.2) (λ left_text right_text el er.
    rows_fault c.args.options.now left_text right_text c.args.left.name.now c.args.right.name.now c.in_ok-sides.sides _ (c.in_ok-sides.ensures.texts left_text right_text el er) c.in_err-report.ensures)

pub returns : goal.returns
returns g c = λ left_text right_text el er.
    report_is c.args.options.now left_text right_text c.args.left.name.now c.args.right.name.now c.in_ok-sides.sides c.in_ok-report.report.text.items c.in_ok-report.report.outcome
    (c.in_ok-sides.ensures.texts left_text right_text el er) c.in_ok-report.ensures
