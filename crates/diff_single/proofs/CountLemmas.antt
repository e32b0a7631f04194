-- Rows that differ in some column, or in none.
use Rattle.std.proofs.Common.{◌≡◌, ◌<◌, ◌+◌, ◌∙◌, ℕ, zero, suc, Bool, true, false, not, cond, List, [], ◌∷◌, length, get_or, ap, arith, sym, refl}
use Rattle.std.proofs.lemmas.Slice.Eq.{bytes_eq-Decides}
use Rattle.std.specs.Prelude.{slice_index}
use Rattle.std.specs.Str.{bytes_eq}
use Rattle.diff_report.specs.Counts.{AddsWhere}
use Rattle.diff_report.specs.Pairs.{differ_at}

turned : (b : Bool) → not b ≡ false → b ≡ true
turned true e = refl
turned false e = cc e

-- the cells in a column in which the rows do not differ
pub same_there : (left right : List (List ℕ)) (k : ℕ) → differ_at left right k ≡ false → get_or left k [] ≡ get_or right k []
same_there left right k e = (bytes_eq-Decides (get_or left k []) (get_or right k [])).0 (turned (bytes_eq (get_or left k []) (get_or right k [])) e)

-- no row differs from itself
never_apart : (cells : List (List ℕ)) (k : ℕ) → differ_at cells cells k ≡ false
never_apart cells k = ap not ((bytes_eq-Decides (get_or cells k []) (get_or cells k [])).1 refl)

-- rows that differ in a column are not the same
pub apart_there : (left right : List (List ℕ)) (k : ℕ) → differ_at left right k ≡ true → left ≡ right → ⊥
apart_there left right k e same = let none : differ_at left right k ≡ false = ap (λ cells. differ_at cells right k) same ∙ never_apart right k in cc (sym e ∙ none)

-- rows that have the same cells are the same
pub same_rows : (left right : List (List ℕ)) → length left ≡ length right → ((k : ℕ) → k < length left → get_or left k [] ≡ get_or right k []) → left ≡ right
same_rows [] [] e h = refl
same_rows [] (y ∷ ys) e h = absurd (omega (arith, e))
same_rows (x ∷ xs) [] e h = absurd (omega (arith, e))
same_rows (x ∷ xs) (y ∷ ys) e h =
    ap (λ z. z ∷ xs) (h 0 (omega arith)) ∙ ap (λ zs. y ∷ zs) (same_rows xs ys (omega (arith, e)) (λ k within. h (suc k) (omega (arith, within))))

-- where rows are the same no count is more
pub none_more : (left right : List (List ℕ)) (counts : List ℕ) → left ≡ right → AddsWhere (differ_at left right) counts counts
none_more left right counts same = record {
  as_many = refl;
  each = λ k within.
      let none : differ_at left right k ≡ false = ap (λ cells. differ_at cells right k) same ∙ never_apart right k in
      let still : slice_index counts k ≡ slice_index counts k + 0 = omega arith in
      still ∙ sym (ap (λ b. slice_index counts k + cond b 1 0) none);
}
