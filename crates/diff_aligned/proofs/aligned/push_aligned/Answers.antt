use Rattle.std.proofs.Common.{rules, ◌≡◌, ◌++◌, ◌∙◌, ap}
use Rattle.std.specs.Str.Lines.{lines}
use Rattle.diff_aligned.specs.Aligned.{aligned_lines, given_by, head_by, row_lines, rows_by, tail_by}
use Rattle.diff_aligned.specs.Paragraphs.{texts_bytes}
use Rattle.diff_aligned.specs.Pieces.{lines_bytes}
use Rattle.diff_aligned.specs.Rows.{rows_view}
use Rattle.diff_aligned.proofs.LineLemmas.{sheet_bytes}
use Rattle.diff_aligned.proofs.aligned.push_aligned.Goals as goal

pub returns-clause-text : goal.returns-clause-text
unfolding aligned_lines
returns-clause-text c =
    let t = c.args.sheet.now in
    let report = lines c.args.report.now in
    let same : c.in-Ok.text.now ≡ c.args.report.now = search rules in
    let head : c.push_text.new.head.items ≡ c.args.out.now.items ++ texts_bytes (given_by (head_by t) report) =
    c.in_ok-push_text.ensures.head ∙ ap (λ s. c.args.out.now.items ++ texts_bytes (given_by (head_by t) (lines s))) same in
    let rows : rows_view c.deref.result.now ≡ given_by (rows_by t) report =
    ap rows_view c.deref.ensures.value ∙ c.in_ok-push_text.ensures.rows ∙ ap (λ l. rows_view l ++ given_by (rows_by t) (lines c.in-Ok.text.now)) c.new-rows.ensures.items ∙ ap (λ s. given_by (rows_by t) (lines s)) same in
    let body : c.push_rows.new.out.items ≡ c.push_text.new.head.items ++ lines_bytes t.colored (row_lines t.width (given_by (rows_by t) report)) =
    c.in_ok-push_rows.ensures ∙ ap (λ r. c.push_text.new.head.items ++ lines_bytes t.colored (row_lines t.width r)) rows in
    let tail : c.extend_from_slice.new.self.items ≡ c.push_rows.new.out.items ++ texts_bytes (given_by (tail_by t) report) =
    c.in_ok-extend_from_slice.ensures.items ∙ ap (λ l. c.push_rows.new.out.items ++ l) (c.deref-2.ensures.value ∙ c.in_ok-push_text.ensures.tail ∙ ap (λ l. l ++ texts_bytes (given_by (tail_by t) (lines c.in-Ok.text.now))) c.new-tail.ensures.items ∙ ap (λ s. texts_bytes (given_by (tail_by t) (lines s))) same) in
    sheet_bytes t.colored c.args.out.now.items _ _ _ (given_by (head_by t) report) (given_by (tail_by t) report) (row_lines t.width (given_by (rows_by t) report)) head body tail
