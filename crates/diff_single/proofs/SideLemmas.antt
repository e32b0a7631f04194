-- Sides of one row each.
use Rattle.std.proofs.Common.{◌≡◌, ◌<◌, ◌∙◌, ℕ, Bool, List, [], ◌∷◌, length, get_or, ap, arith, subst, sym, refl}
use Rattle.std.proofs.lemmas.List.{take_all}
use Rattle.std.specs.Prelude.{All, IfSome, Option, slice_index}
use Rattle.diff_report.specs.Naming.{Naming}
use Rattle.diff_report.specs.Sides.{AreAsLarge, AreSides, IsSide, naming_of}
use Rattle.diff_report.specs.declared.sides.Side.{Side}
use Rattle.diff_report.specs.declared.sides.Sides.{Sides}
use Rattle.diff_tables.specs.Tables.{cut_rows}
use Rattle.diff_single.specs.Frame.{naming_by}
use Rattle.diff_single.specs.Rows.{HasOneRowEach, HasRowAt, IsOneRow}
use Rattle.diff_single.specs.declared.frame.Frame.{Frame}

-- a row that has all cells
pub cut_one : (w : ℕ) (cells : List (List ℕ)) → w ≡ length cells → cut_rows w 1 cells ≡ cells ∷ []
unfolding cut_rows
cut_one w cells e = ap (λ row. row ∷ []) (take_all w cells (omega (arith, e)))

pub same_naming : (names other_names : List (List ℕ)) (keys other_keys : List ℕ) (null other_null : Option (List ℕ)) (colored : Bool)
    → names ≡ other_names → keys ≡ other_keys → null ≡ other_null
    → ◌≡◌ {A = Naming} (record { names = names; keys = keys; null = null; colored = colored }) (record { names = other_names; keys = other_keys; null = other_null; colored = colored })
same_naming names other_names keys other_keys null other_null colored a b c = rw (a, b, c) refl

-- the one row stands at place 0
pub row_there : (name : List ℕ) (cells : List (List ℕ)) (number line : ℕ) (side : Side) → IsOneRow name cells number line side → HasRowAt side 0 cells number line
row_there name cells number line side h = record { cells = ap (λ rows. get_or rows 0 []) h.rows; number = h.number; line = ap (λ lines. slice_index lines 0) h.lines }

one_fits : (n : Naming) (name : List ℕ) (cells : List (List ℕ)) (number line : ℕ) (side : Side) → length cells ≡ length n.names → IsOneRow name cells number line side → IsSide n side
one_fits n name cells number line side size h = record {
  width = h.width ∙ size;
  lines = ap length h.lines ∙ sym (ap length h.rows);
  numbers = subst (λ count. IfSome side.numbers (λ v. length v.items ≡ count)) (sym (ap length h.rows)) h.numbers;
}

-- sides of a row each under a frame's names, with a cell for each name
pub both_fit : (f : Frame) (left : List (List ℕ)) (left_number left_line : ℕ) (right : List (List ℕ)) (right_number right_line : ℕ) (s : Sides)
    → All (λ column. column < length (naming_by f).names) f.keys.now → length left ≡ length (naming_by f).names → length right ≡ length (naming_by f).names
    → HasOneRowEach f left left_number left_line right right_number right_line s → AreSides s
both_fit f left left_number left_line right right_number right_line s keys left_size right_size h = record {
  left = one_fits (naming_of s) f.left.now left left_number left_line s.left (left_size ∙ ap (λ (n : Naming). length n.names) (sym h.naming)) h.left;
  right = one_fits (naming_of s) f.right.now right right_number right_line s.right (right_size ∙ ap (λ (n : Naming). length n.names) (sym h.naming)) h.right;
  comparables = subst (λ o. IfSome o (AreAsLarge s.left.table s.right.table)) (sym h.comparables) tt;
  keys = subst (λ (n : Naming). All (λ column. column < length n.names) n.keys) (sym h.naming) keys;
}
