use Rattle.std.proofs.Common.{rules, ◌≡◌, ◌++◌, ◌∙◌, ap}
use Rattle.std.specs.Prelude.{codes}
use Rattle.std.specs.Str.Lines.{lines}
use Rattle.diff_markdown.specs.Cells.{name_cell}
use Rattle.diff_markdown.specs.Markdown.{counts_of, markdown_of, rows_of, table}
use Rattle.diff_markdown.proofs.TextLemmas.{appended}
use Rattle.diff_markdown.proofs.markdown.push_markdown.Goals as goal

pub returns-clause-text : goal.returns-clause-text
unfolding markdown_of
returns-clause-text c =
    let out = c.args.out.now.items in
    let left = name_cell c.args.left.now in
    let right = name_cell c.args.right.now in
    let report = lines c.args.report.now in
    let same : c.in-Ok.text.now ≡ c.args.report.now = search rules in
    let counts : c.push_text.new.head.items ≡ c.push_name_cell-2.new.out.items ++ counts_of report =
    c.in_ok-push_text.ensures.head ∙ ap (λ t. c.push_name_cell-2.new.out.items ++ counts_of (lines t)) same in
    let rows : c.deref.result.now ≡ rows_of report = search rules in
    let tabled : c.push_table.new.out.items ≡ c.push.new.self.items ++ table (rows_of report) =
    c.in_ok-push_table.ensures ∙ ap (λ r. c.push.new.self.items ++ table r) rows in
    let to_and : c.extend_from_slice.new.self.items ≡ out ++ (left ++ codes " and ") =
    appended out left (codes " and ") c.push_name_cell.new.out.items _ c.in_ok-push_name_cell.ensures c.in_ok-extend_from_slice.ensures.items in
    let to_names : c.push_name_cell-2.new.out.items ≡ out ++ (left ++ codes " and " ++ right) =
    appended out (left ++ codes " and ") right _ _ to_and c.in_ok-push_name_cell-2.ensures in
    let to_counts : c.push_text.new.head.items ≡ out ++ (left ++ codes " and " ++ right ++ counts_of report) =
    appended out (left ++ codes " and " ++ right) (counts_of report) _ _ to_names counts in
    let to_line : c.push.new.self.items ≡ out ++ (left ++ codes " and " ++ right ++ counts_of report ++ codes "\n") =
    appended out (left ++ codes " and " ++ right ++ counts_of report) (codes "\n") _ _ to_counts c.in_ok-push.ensures.items in
    appended out (left ++ codes " and " ++ right ++ counts_of report ++ codes "\n") (table (rows_of report)) _ _ to_line tabled
