use Rattle.std.proofs.Common.{◌∙◌, sym}
use Rattle.std.proofs.lemmas.Result.{err_from_is_err_and}
use Rattle.diff_merge.proofs.pairing.match_sorted.Goals as goal

pub returns-in_err-merge : goal.returns-in_err-merge
returns-in_err-merge g c =
    let p = err_from_is_err_and c.from_residual.result c.from_residual.ensures.1 in
    rw (p.1, p.2) (λ options left_text right_text left_at right_at. c.in_err-merge.ensures.merged options left_text right_text left_at right_at
    (λ m e. record { left_rows = c.new.ensures.items ∙ sym e.left_rows; right_rows = c.new-2.ensures.items ∙ sym e.right_rows; removed = c.new-3.ensures.items ∙ sym e.removed; added = c.new-4.ensures.items ∙ sym e.added }))

pub returns : goal.returns
returns g c = λ options left_text right_text left_at right_at. c.in_ok-merge.ensures.merged options left_text right_text left_at right_at
    (λ m e. record { left_rows = c.new.ensures.items ∙ sym e.left_rows; right_rows = c.new-2.ensures.items ∙ sym e.right_rows; removed = c.new-3.ensures.items ∙ sym e.removed; added = c.new-4.ensures.items ∙ sym e.added })
