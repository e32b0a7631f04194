use Rattle.std.proofs.Common.{subst, sym}
use Rattle.std.proofs.lemmas.Result.{err_from_is_err_and}
use Rattle.diff_single.specs.declared.frame.Frame.{Frame}
use Rattle.diff_sorted.specs.Ends.{IsLentFrame}
use Rattle.diff_sorted.proofs.run.report_on.Goals as goal

pub returns-in_err-test_options : goal.returns-in_err-test_options
returns-in_err-test_options g c =
    let p = err_from_is_err_and c.from_residual.result c.from_residual.ensures.1 in
    rw (p.1, p.2) (λ left_text right_text el er. c.in_err-test_options.ensures left_text right_text)

pub returns-in_err-left : goal.returns-in_err-left
returns-in_err-left g c =
    let p = err_from_is_err_and c.from_residual-in_err-left.result c.from_residual-in_err-left.ensures.1 in
    rw (p.1, p.2) (λ left_text right_text el er. c.in_err-left.ensures left_text right_text el)

pub returns-in_err-right : goal.returns-in_err-right
returns-in_err-right g c =
    let p = err_from_is_err_and c.from_residual-in_err-right.result c.from_residual-in_err-right.ensures.1 in
    rw (p.1, p.2) (λ left_text right_text el er. c.in_err-right.ensures left_text right_text er)

pub returns-in_err-heads : goal.returns-in_err-heads
returns-in_err-heads g c =
    let p = err_from_is_err_and c.from_residual-in_err-heads.result c.from_residual-in_err-heads.ensures.1 in
    rw (p.1, p.2) (λ left_text right_text el er. c.in_err-heads.ensures.texts left_text right_text (c.in_ok-left.ensures left_text el) (c.in_ok-right.ensures right_text er))

pub returns-in_err-frame : goal.returns-in_err-frame
returns-in_err-frame g c =
    let p = err_from_is_err_and c.from_residual-in_err-frame.result c.from_residual-in_err-frame.ensures.1 in
    rw (p.1, p.2, c.in_err-frame.ensures) (λ left_text right_text el er. tt)

pub returns-in_err-told : goal.returns-in_err-told
returns-in_err-told g c =
    let p = err_from_is_err_and c.from_residual-in_err-told.result c.from_residual-in_err-told.ensures.1 in
    rw (p.1, p.2) (λ left_text right_text el er.
    let left = c.in_ok-left.ensures left_text el in
    let right = c.in_ok-right.ensures right_text er in
    c.in_err-told.ensures.told left_text right_text left right (c.in_ok-heads.ensures.texts left_text right_text left right))

pub returns-in_err-report : goal.returns-in_err-report
returns-in_err-report g c =
    let p = err_from_is_err_and c.from_residual-in_err-report.result c.from_residual-in_err-report.ensures.1 in
    rw (p.1, p.2, c.in_err-report.ensures) (λ left_text right_text el er. tt)

pub returns : goal.returns
returns g c = λ left_text right_text el er.
    let left = c.in_ok-left.ensures left_text el in
    let right = c.in_ok-right.ensures right_text er in
    c.in_ok-report.ensures left_text right_text c.in_ok-frame.frame (c.in_ok-heads.ensures.texts left_text right_text left right) c.in_ok-heads.ensures.chosen c.in_ok-test_options.ensures c.in_ok-frame.ensures
    (subst (λ (f : Frame). IsLentFrame c.args.options.now c.in_ok-frame.frame f) (sym c.in_ok-told.ensures.frame) c.lent.ensures)
    c.in_ok-told.ensures.limit (c.in_ok-told.ensures.told left_text right_text left right)
