use Rattle.std.proofs.Common.{◌∙◌}
use Rattle.std.proofs.lemmas.List.{append_assoc}
use Rattle.std.specs.Fmt.{decimal}
use Rattle.std.specs.Prelude.{codes}
use Rattle.diff_report.specs.Summary.{totals_text}
use Rattle.diff_report.proofs.Joins.{pieces}
use Rattle.diff_report.proofs.summary.push_totals.Goals as goal

pub returns : goal.returns
unfolding totals_text
returns c = λ all totals.
    let old = c.args.out.now.items in
    let first = c.in_ok-push_count.ensures ∙ append_assoc old (decimal c.args.totals.now.changed) (codes " changed, ") in
    rw (← totals.same, ← totals.added, ← totals.removed, ← totals.changed)
    (pieces old _ _ _ _ _ (pieces old _ _ _ _ _ (pieces old _ _ _ _ _ first c.in_ok-push_count-2.ensures) c.in_ok-push_count-3.ensures) c.in_ok-push_count-4.ensures)
