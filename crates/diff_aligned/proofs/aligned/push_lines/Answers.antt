use Rattle.std.proofs.Common.{rules, arith, ◌≡◌, Err, ap}
use Rattle.std.specs.Prelude.{IsSome}
use Rattle.diff_aligned.specs.Aligned.{given, head_by, rows_by, tail_by}
use Rattle.diff_lines.specs.LineLaws.{each_more, holds_of_one, none_is}
use Rattle.diff_lines.specs.Lines.{line_of}
use Rattle.diff_lines.specs.declared.error.LineError.TheVariants.{NoReport}
use Rattle.diff_aligned.proofs.LineLemmas.{rows_given, texts_given}
use Rattle.diff_aligned.proofs.aligned.push_lines.Goals as goal

pub loop-line-preserved : goal.loop-line-preserved
loop-line-preserved c =
    let ls = c.args.lines.now in
    let t = c.args.sheet.now in
    let i = c.loop-line.line-index in (
      each_more (λ l. IsSome (line_of l)) ls i _ (omega arith) c.loop-line.invariant.0 c.in_ok-push_line.ensures.ok,
      texts_given (λ l. given (head_by t) (line_of l)) _ _ _ ls i _ (omega arith) c.loop-line.invariant.1 c.in_ok-push_line.ensures.head,
      rows_given (λ l. given (rows_by t) (line_of l)) _ _ _ ls i _ (omega arith) c.loop-line.invariant.2 c.in_ok-push_line.ensures.rows,
      texts_given (λ l. given (tail_by t) (line_of l)) _ _ _ ls i _ (omega arith) c.loop-line.invariant.3 c.in_ok-push_line.ensures.tail,
    )

pub returns-in_err-push_line-clause-no_report : goal.returns-in_err-push_line-clause-no_report
returns-in_err-push_line-clause-no_report c = λ is all.
    let same : c.in_err-push_line.field-0.0 ≡ NoReport = search rules in
    none_is _ (c.in_err-push_line.ensures.no_report (ap Err same)) (holds_of_one (λ l. IsSome (line_of l)) c.args.lines.now c.loop-line.line-index _ (omega arith) all)
