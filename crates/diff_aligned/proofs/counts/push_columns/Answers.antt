use Rattle.std.proofs.Common.{rules, ◌<◌, ◌++◌, ◌∷◌, [], ◌∙◌, ap, sym, length}
use Rattle.std.specs.Prelude.{codes, map}
use Rattle.json.specs.Value.{members_view}
use Rattle.diff_aligned.specs.Counts.{pair_words}
use Rattle.diff_aligned.proofs.PartLemmas.{some_column_words}
use Rattle.diff_aligned.proofs.TextLemmas.{appended}
use Rattle.diff_aligned.proofs.counts.push_columns.Goals as goal

pub returns : goal.returns
returns c =
    let ms = c.args.members.now.items in
    let words = map (λ v. v.items) c.args.words.now.items in
    let some : 0 < length ms = search rules in
    appended words (codes "By column:" ∷ []) (pair_words (members_view ms)) _ _ c.in_ok-push_ascii_word.ensures c.in_ok-push_pair_words.ensures ∙ ap (λ l. words ++ l) (sym (some_column_words ms some))
