use Rattle.std.proofs.Common.{rules, ◌≡◌, ◌++◌, ◌∙◌, ap}
use Rattle.std.specs.Prelude.{codes}
use Rattle.json.specs.Find.{get}
use Rattle.json.specs.Value.{value_view}
use Rattle.diff_markdown.specs.Cells.{pairs_cell}
use Rattle.diff_markdown.specs.Counts.{columns_note, counts_text, hidden_note}
use Rattle.diff_lines.specs.Parts.{number_at}
use Rattle.diff_markdown.proofs.TextLemmas.{appended}
use Rattle.diff_markdown.proofs.counts.push_counts.Goals as goal

pub returns : goal.returns
unfolding counts_text
returns c =
    let j = value_view c.args.counts.now in
    let pairs : c.deref.result.now ≡ pairs_cell (get (codes "columns") j) = search rules in
    let columns : c.push_columns.new.out.items ≡ c.push_kinds.new.out.items ++ columns_note (pairs_cell (get (codes "columns") j)) =
    c.in_ok-push_columns.ensures ∙ ap (λ p. c.push_kinds.new.out.items ++ columns_note p) pairs in
    let hidden : c.push_hidden.new.out.items ≡ c.push_skipped.new.out.items ++ hidden_note (number_at (codes "not_shown") j) =
    c.in_ok-push_hidden.ensures ∙ ap (λ n. c.push_skipped.new.out.items ++ hidden_note n) c.number_at.ensures in
    appended _ _ _ _ _ (appended _ _ _ _ _ (appended _ _ _ _ _ c.in_ok-push_kinds.ensures columns) c.in_ok-push_skipped.ensures) hidden
