use Rattle.diff_report.specs.Summary.{summary_text}
use Rattle.diff_report.proofs.Joins.{piece}
use Rattle.diff_report.proofs.summary.push_summary.Goals as goal

pub returns : goal.returns
unfolding summary_text
returns c = λ n all names totals.
    let old = c.args.out.now.items in
    let columns = rw (totals.changed, ← names) at c.in_ok-push_columns.ensures in
    piece old _ _ _ _ (piece old _ _ _ _ (c.in_ok-push_totals.ensures all totals) columns) c.in_ok-push.ensures.items
