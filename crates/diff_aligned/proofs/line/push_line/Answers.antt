use Rattle.std.proofs.Common.{◌++◌, ◌∙◌, ap, sym}
use Rattle.diff_aligned.specs.Aligned.{given, head_by, rows_by, tail_by}
use Rattle.diff_aligned.specs.Paragraphs.{texts_bytes}
use Rattle.diff_aligned.specs.Rows.{rows_view}
use Rattle.diff_aligned.proofs.line.push_line.Goals as goal

pub returns-clause-head : goal.returns-clause-head
returns-clause-head c =
    c.in_ok-push_by_kind.ensures.head ∙ ap (λ l. c.args.head.now.items ++ texts_bytes (given (head_by c.args.sheet.now) l)) (sym c.in_ok-kind.ensures.ok)

pub returns-clause-rows : goal.returns-clause-rows
returns-clause-rows c =
    c.in_ok-push_by_kind.ensures.rows ∙ ap (λ l. rows_view c.args.rows.now.items ++ given (rows_by c.args.sheet.now) l) (sym c.in_ok-kind.ensures.ok)

pub returns-clause-tail : goal.returns-clause-tail
returns-clause-tail c =
    c.in_ok-push_by_kind.ensures.tail ∙ ap (λ l. c.args.tail.now.items ++ texts_bytes (given (tail_by c.args.sheet.now) l)) (sym c.in_ok-kind.ensures.ok)
