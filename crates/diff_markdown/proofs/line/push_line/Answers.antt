use Rattle.std.proofs.Common.{◌++◌, ◌∙◌, ap, sym}
use Rattle.diff_markdown.specs.Markdown.{rows_in}
use Rattle.diff_markdown.proofs.line.push_line.Goals as goal

pub returns-clause-rows : goal.returns-clause-rows
returns-clause-rows c = c.in_ok-push_by_kind.ensures.rows ∙ ap (λ l. c.args.rows.now.items ++ rows_in l) (sym c.in_ok-kind.ensures.ok)
