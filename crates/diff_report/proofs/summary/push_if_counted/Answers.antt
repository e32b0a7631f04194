use Rattle.std.proofs.Common.{◌≡◌, true, rules}
use Rattle.diff_report.specs.Summary.{is_counted}
use Rattle.diff_report.proofs.Joins.{appended, written_if}
use Rattle.diff_report.proofs.summary.push_if_counted.Goals as goal

pub returns-clause-text : goal.returns-clause-text
returns-clause-text c =
    let counted : is_counted c.args.counts.now c.args.column ≡ true = search rules in
    let name = rw c.bytes.ensures at c.in_ok-push_word.ensures in
    let text = appended _ _ _ _ _ (appended _ _ _ _ _ name c.in_ok-push.ensures.items) c.in_ok-push_decimal.ensures in
    written_if _ c.args.out.now.items _ _ counted (appended c.args.out.now.items _ _ _ _ c.in_ok-push_gap.ensures text)
