use Rattle.std.proofs.lemmas.Result.{err_from_is_err_and}
use Rattle.diff_run.proofs.inputs.read_both.Goals as goal

pub returns-in_err-left-clause-tables : goal.returns-in_err-left-clause-tables
returns-in_err-left-clause-tables g c =
    let p = err_from_is_err_and c.from_residual.result c.from_residual.ensures.1 in
    rw (p.1, p.2) (λ left_text right_text left right. c.in_err-left.ensures.table left_text right_text left)

pub returns-in_err-right-clause-tables : goal.returns-in_err-right-clause-tables
returns-in_err-right-clause-tables g c =
    let p = err_from_is_err_and c.from_residual-in_err-right.result c.from_residual-in_err-right.ensures.1 in
    rw (p.1, p.2) (λ left_text right_text left right. c.in_err-right.ensures.table left_text right_text right)
