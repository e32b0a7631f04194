use Rattle.std.proofs.Common.{◌≡◌, ◌∙◌, ◌++◌, ap, take}
use Rattle.std.proofs.lemmas.List.{append_assoc}
use Rattle.std.specs.List.{concat}
use Rattle.diff_report.specs.Counts.{column_counts}
use Rattle.diff_report.specs.Naming.{Naming}
use Rattle.diff_run.specs.Lines.{all_lines, end_text}
use Rattle.diff_run.proofs.LineLemmas.{in_form}
use Rattle.diff_sorted.proofs.EndLemmas.{tells_all}
use Rattle.diff_sorted.proofs.report.SortedReport.push.Goals as goal

pub returns : goal.returns
returns c = λ left_rows right_rows s d h.
    let r = c.args.self.now in
    let old = c.args.out.now.items in
    let format = r.frame.format in
    let all = tells_all r left_rows right_rows s d h in
    let counts = column_counts s d.matching d.changed.items in
    let counted : c.deref.result.now ≡ counts = c.deref.ensures.value ∙ all.counts in
    let ended : c.push_end.new.out.items ≡ c.push_lines.new.out.items ++ end_text format s d counts r.limit =
    rw (← counted) (c.in_ok-push_end.ensures s d (ap (λ (n : Naming). n.names) h.frame.naming) (c.totals.ensures left_rows right_rows s d h)) in
    ended
    ∙ (ap (λ l. l ++ end_text format s d counts r.limit) (c.in_ok-push_lines.ensures left_rows right_rows s d h)
    ∙ (append_assoc old (concat (take r.limit (all_lines format s d))) (end_text format s d counts r.limit) ∙ ap (λ l. old ++ l) (in_form format s d counts r.limit)))
