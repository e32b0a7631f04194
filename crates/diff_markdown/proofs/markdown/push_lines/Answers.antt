use Rattle.std.proofs.Common.{rules, arith, ◌≡◌, Err, ap}
use Rattle.std.specs.Prelude.{IsSome}
use Rattle.diff_lines.specs.Lines.{line_of}
use Rattle.diff_markdown.specs.Markdown.{counts_in, rows_in}
use Rattle.diff_lines.specs.declared.error.LineError.TheVariants.{NoReport}
use Rattle.diff_lines.specs.LineLaws.{each_more, holds_of_one, none_is, written_more}
use Rattle.diff_markdown.proofs.markdown.push_lines.Goals as goal

pub loop-line-preserved : goal.loop-line-preserved
loop-line-preserved c =
    let ls = c.args.lines.now in
    let i = c.loop-line.line-index in (
      each_more (λ l. IsSome (line_of l)) ls i _ (omega arith) c.loop-line.invariant.0 c.in_ok-push_line.ensures.ok,
      written_more (λ l. counts_in (line_of l)) c.args.head.now.items _ _ ls i _ (omega arith) c.loop-line.invariant.1 c.in_ok-push_line.ensures.head,
      written_more (λ l. rows_in (line_of l)) c.args.rows.now.items _ _ ls i _ (omega arith) c.loop-line.invariant.2 c.in_ok-push_line.ensures.rows,
    )

pub returns-in_err-push_line-clause-no_report : goal.returns-in_err-push_line-clause-no_report
returns-in_err-push_line-clause-no_report c = λ is all.
    let same : c.in_err-push_line.field-0.0 ≡ NoReport = search rules in
    none_is _ (c.in_err-push_line.ensures.no_report (ap Err same)) (holds_of_one (λ l. IsSome (line_of l)) c.args.lines.now c.loop-line.line-index _ (omega arith) all)
