use Rattle.diff_sorted.proofs.RunLemmas.{report_is}
use Rattle.diff_sorted.proofs.run.report_of.Goals as goal

pub returns : goal.returns
returns c = λ left_text right_text f heads chosen can frame lent limit told.
    report_is c.args.options.now left_text right_text c.args.files.left.now c.args.files.right.now c.args.heads.now f c.args.told.now c.requires heads chosen can frame lent told
    _ _ _ limit c.in_ok-text.ensures c.in_ok-push.ensures c.outcome_of-outcome.ensures
