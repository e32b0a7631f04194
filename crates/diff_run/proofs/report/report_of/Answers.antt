use Rattle.std.proofs.Common.{◌∙◌, ◌++◌, ap}
use Rattle.std.proofs.lemmas.Result.{err_from_is_err_and}
use Rattle.diff_report.specs.Counts.{column_counts}
use Rattle.diff_run.specs.Run.{differences_text}
use Rattle.diff_run.proofs.SideLemmas.{rows_fault}
use Rattle.diff_run.proofs.report.report_of.Goals as goal

pub returns : goal.returns
returns c = λ left_text right_text heads sides.
    let text = rw (heads.left_names sides.left_records sides.left_all, heads.right_names sides.right_records sides.right_all) at c.in_ok-text.ensures in
    record {
      layout = c.args.heads.now.layout;
      sides = c.args.sides.now;
      comparison = c.in_ok-comparison.comparison;
      sides_are = sides;
      compared = c.in_ok-comparison.ensures;
      unique = c.in_ok-test_keys.ensures;
      text = c.in_ok-push_all.ensures ∙ ap (λ t. t ++ differences_text c.args.options.now.format c.args.sides.now c.in_ok-comparison.comparison (column_counts c.args.sides.now c.in_ok-comparison.comparison.matching c.in_ok-comparison.comparison.changed.items) c.args.options.now.limit) text;
      outcome_is = c.outcome_of-outcome.ensures;
    }

pub returns-in_err-test_keys : goal.returns-in_err-test_keys
returns-in_err-test_keys c =
    let p = err_from_is_err_and c.from_residual.result c.from_residual.ensures.1 in
    rw (p.1, p.2) (λ left_text right_text sides. rows_fault c.args.options.now left_text right_text c.args.files.left.now c.args.files.right.now c.args.heads.now.layout c.args.sides.now _ sides c.in_err-test_keys.ensures)

pub returns-in_err-comparison : goal.returns-in_err-comparison
returns-in_err-comparison c =
    let p = err_from_is_err_and c.from_residual-in_err-comparison.result c.from_residual-in_err-comparison.ensures.1 in
    rw (p.1, p.2) (λ left_text right_text sides. rows_fault c.args.options.now left_text right_text c.args.files.left.now c.args.files.right.now c.args.heads.now.layout c.args.sides.now _ sides (c.in_err-comparison.ensures c.args.options.now))
