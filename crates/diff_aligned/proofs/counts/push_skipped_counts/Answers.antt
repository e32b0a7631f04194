use Rattle.std.proofs.Common.{◌∷◌, []}
use Rattle.std.specs.Prelude.{codes, map}
use Rattle.json.specs.Value.{value_view}
use Rattle.diff_aligned.specs.Counts.{count_word}
use Rattle.diff_aligned.proofs.TextLemmas.{appended}
use Rattle.diff_aligned.proofs.counts.push_skipped_counts.Goals as goal

pub returns : goal.returns
returns c =
    let j = value_view c.args.counts.now in
    let words = map (λ v. v.items) c.args.words.now.items in
    let left = count_word (codes "left_skipped") (codes " left,") j in
    let right = count_word (codes "right_skipped") (codes " right.") j in
    let two = appended words (codes "Skipped lines:" ∷ []) (left ∷ []) _ _ c.in_ok-push_ascii_word.ensures c.in_ok-push_count.ensures in
    appended words (codes "Skipped lines:" ∷ left ∷ []) (right ∷ []) _ _ two c.in_ok-push_count-2.ensures
