use Rattle.std.proofs.lemmas.Result.{MatchResult-weaker, err_from_is_err_and}
use Rattle.diff_run.proofs.run.report_on.Goals as goal

pub returns-in_err-left : goal.returns-in_err-left
returns-in_err-left g c =
    let p = err_from_is_err_and c.from_residual.result c.from_residual.ensures.1 in
    rw (p.1, p.2) (λ left_text right_text el er. c.in_err-left.ensures left_text right_text el)

pub returns-in_err-right : goal.returns-in_err-right
returns-in_err-right g c =
    let p = err_from_is_err_and c.from_residual-in_err-right.result c.from_residual-in_err-right.ensures.1 in
    rw (p.1, p.2) (λ left_text right_text el er. c.in_err-right.ensures left_text right_text er)

pub returns-in_err-heads : goal.returns-in_err-heads
returns-in_err-heads g c =
    let p = err_from_is_err_and c.from_residual-in_err-heads.result c.from_residual-in_err-heads.ensures.1 in
    rw (p.1, p.2) (λ left_text right_text el er. c.in_err-heads.ensures.texts left_text right_text (c.in_ok-left.ensures left_text el) (c.in_ok-right.ensures right_text er))

pub returns-in_err-sides : goal.returns-in_err-sides
returns-in_err-sides g c =
    let p = err_from_is_err_and c.from_residual-in_err-sides.result c.from_residual-in_err-sides.ensures.1 in
    rw (p.1, p.2) (λ left_text right_text el er.
    let left = c.in_ok-left.ensures left_text el in
    let right = c.in_ok-right.ensures right_text er in
    c.in_err-sides.ensures.texts left_text right_text left right (c.in_ok-heads.ensures.texts left_text right_text left right))

pub returns : goal.returns
returns g c =
    MatchResult-weaker c.report_of.result c.report_of.ensures
    (λ report held left_text right_text el er.
    let left = c.in_ok-left.ensures left_text el in
    let right = c.in_ok-right.ensures right_text er in
    let heads = c.in_ok-heads.ensures.texts left_text right_text left right in
    held left_text right_text heads (c.in_ok-sides.ensures.texts left_text right_text left right heads))
    (λ error fault left_text right_text el er.
    let left = c.in_ok-left.ensures left_text el in
    let right = c.in_ok-right.ensures right_text er in
    fault left_text right_text (c.in_ok-sides.ensures.texts left_text right_text left right (c.in_ok-heads.ensures.texts left_text right_text left right)))
