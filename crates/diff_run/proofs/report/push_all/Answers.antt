use Rattle.std.proofs.Common.{◌≡◌, ◌∙◌, ◌++◌, take, ap, refl}
use Rattle.std.proofs.lemmas.List.{append_assoc}
use Rattle.std.specs.List.{concat}
use Rattle.diff_report.proofs.NamedLemmas.{rows_named}
use Rattle.diff_report.specs.Counts.{column_counts}
use Rattle.diff_report.specs.Sides.{NamesRows}
use Rattle.diff_run.specs.Lines.{all_lines, end_text}
use Rattle.diff_run.proofs.LineLemmas.{in_form}
use Rattle.diff_run.proofs.report.push_all.Goals as goal

pub push_lines-requires-clause-rows : goal.push_lines-requires-clause-rows
push_lines-requires-clause-rows c = rows_named c.args.sides.now c.args.comparison.now c.requires.sides c.requires.comparison

pub of-totals-requires : goal.of-totals-requires
of-totals-requires c = let named : NamesRows c.args.sides.now c.args.comparison.now = rows_named c.args.sides.now c.args.comparison.now c.requires.sides c.requires.comparison in named.few

pub returns : goal.returns
returns c =
    let s = c.args.sides.now in
    let d = c.args.comparison.now in
    let old = c.args.out.now.items in
    let format = c.args.options.now.format in
    let limit = c.args.options.now.limit in
    let counts = column_counts s d.matching d.changed.items in
    let counted : c.deref.result.now ≡ counts = c.deref.ensures.value ∙ c.in_ok-counts.ensures.counts in
    let ended : c.push_end.new.out.items ≡ c.push_lines.new.out.items ++ end_text format s d counts limit = rw (← counted) (c.in_ok-push_end.ensures s d refl c.of-totals.ensures) in
    ended
    ∙ (ap (λ l. l ++ end_text format s d counts limit) c.in_ok-push_lines.ensures
    ∙ (append_assoc old (concat (take limit (all_lines format s d))) (end_text format s d counts limit) ∙ ap (λ l. old ++ l) (in_form format s d counts limit)))
