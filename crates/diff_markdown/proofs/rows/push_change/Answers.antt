use Rattle.std.proofs.Common.{◌≡◌, ℕ, List, ◌++◌}
use Rattle.diff_markdown.specs.Rows.{change_row}
use Rattle.diff_markdown.proofs.TextLemmas.{appended}
use Rattle.diff_markdown.proofs.rows.push_change.Goals as goal

-- two texts more
two_more : (out a b c x y z : List ℕ) → x ≡ out ++ a → y ≡ x ++ b → z ≡ y ++ c → z ≡ out ++ (a ++ b ++ c)
two_more out a b c x y z e f g = appended out (a ++ b) c y z (appended out a b x y e f) g

pub returns : goal.returns
unfolding change_row
returns c =
    two_more _ _ _ _ _ _ _
    (two_more _ _ _ _ _ _ _
    (two_more _ _ _ _ _ _ _
    (two_more _ _ _ _ _ _ _ c.in_ok-extend_from_slice.ensures.items c.in_ok-extend_from_slice-2.ensures.items c.in_ok-extend_from_slice-3.ensures.items)
    c.in_ok-push_name_cell.ensures c.in_ok-extend_from_slice-4.ensures.items)
    c.in_ok-push_side.ensures c.in_ok-extend_from_slice-5.ensures.items)
    c.in_ok-push_side-2.ensures c.in_ok-extend_from_slice-6.ensures.items
