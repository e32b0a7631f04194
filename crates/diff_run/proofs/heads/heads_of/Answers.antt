use Rattle.std.proofs.lemmas.Result.{err_from_is_err_and}
use Rattle.diff_run.proofs.SideLemmas.{heads_fault}
use Rattle.diff_run.proofs.heads.heads_of.Goals as goal

pub returns-in_err-test_heads-clause-texts : goal.returns-in_err-test_heads-clause-texts
returns-in_err-test_heads-clause-texts g c =
    let p = err_from_is_err_and c.from_residual-in_err-test_heads.result c.from_residual-in_err-test_heads.ensures.1 in
    rw (p.1, p.2) (λ left_text right_text opened_left opened_right.
    heads_fault c.args.options.now left_text right_text c.in_ok-heads.heads _ (c.in_ok-heads.ensures.texts left_text right_text opened_left opened_right) c.in_ok-heads.ensures.layout c.in_err-test_heads.ensures)
