-- Stored rows that are tested place by place are raw equality.
use Rattle.std.proofs.Common.{◌≡◌, ◌↔◌, ◌∙◌, ℕ, zero, suc, Bool, true, false, not, List, [], ◌∷◌, Option, length, map, take, drop, replicate, refl, sym, ap, ap₂, subst, arith, slice_index_or}
use Rattle.std.specs.Bool.{⊤}
use Rattle.std.specs.Simd.Lanes.{zip2}
use Rattle.std.proofs.lemmas.Simd.{get_or-zip2, zip2_splat}
use Rattle.std.proofs.lemmas.List.{length-replicate}
use Rattle.polars_arrays_flat.specs.Row.{Row, Null}
use Rattle.polars_arrays_flat.specs.StoredRows.{row}
use Rattle.polars_arrays_flat.specs.Validity.{window}
use Rattle.polars_compare_leaves.specs.Equality.{RawEquality}
use Rattle.polars_compare_leaves.specs.Sameness.{same_row, other_row}
use Rattle.polars_compare_equality.proofs.Trees.{same-equal, same-self}

length-zip2 : {A B C : Type 0} (f : A → B → C) (xs : List A) (ys : List B) → length ys ≡ length xs → length (zip2 f xs ys) ≡ length xs
length-zip2 f [] ys e = refl
length-zip2 f (x ∷ xs) [] e = absurd (omega arith)
length-zip2 f (x ∷ xs) (y ∷ ys) e = ap suc (length-zip2 f xs ys (omega arith))

pub not-false : (b : Bool) → not b ≡ false → b ≡ true
not-false true e = refl
not-false false e = cc

pub same-told : (x y : Row) → (same_row x y ≡ true) ↔ (x ≡ y)
same-told x y = (same-equal x y, (λ e. subst (λ (z : Row). same_row x z ≡ true) e (same-self x)))

pub other-told : (x y : Row) → (other_row x y ≡ false) ↔ (x ≡ y)
other-told x y = let told = same-told x y in ((λ h. told.0 (not-false (same_row x y) h)), (λ e. ap not (told.1 e)))

-- all of a list, as a window of it
pub whole : {A : Type 0} (xs : List A) (n : ℕ) → n ≡ length xs → take n (drop 0 xs) ≡ xs
whole [] zero e = refl
whole [] (suc n) e = absurd (omega arith)
whole (x ∷ xs) zero e = absurd (omega arith)
whole (x ∷ xs) (suc n) e = ap (λ (ys : List _). x ∷ ys) (whole xs n (omega arith))

module _ (told : Bool) (test : Row → Row → Bool) (law : (x y : Row) → (test x y ≡ told) ↔ (x ≡ y)) where
  from-zip : (l r : Option (List Bool)) (xs ys : List Row) (bits : List Bool) → length ys ≡ length xs → bits ≡ zip2 test xs ys → RawEquality told ⊤ l r xs ys bits
  from-zip l r xs ys bits e b = record {
    size = rw b (length-zip2 test xs ys e);
    at_present = λ i h p q.
        let at : slice_index_or bits i false ≡ test (row xs i) (row ys i) = rw b (get_or-zip2 test xs ys i Null Null false h (omega arith)) in
        let k = law (row xs i) (row ys i) in
        ((λ t. (tt, k.0 (sym at ∙ t))), (λ s. at ∙ k.1 s.1));
  }

  from-windows : (l r : Option (List Bool)) (xs ys : List Row) (n : ℕ) (bits : List Bool) → n ≡ length xs → length xs ≡ length ys → bits ≡ zip2 test (window 0 n xs) (window 0 n ys) → RawEquality told ⊤ l r xs ys bits
  from-windows l r xs ys n bits all e b =
      from-zip l r xs ys bits (sym e) (b ∙ ap₂ (λ (us vs : List Row). zip2 test us vs) (whole xs n all) (whole ys n (all ∙ e)))

  from-constant : (l r : Option (List Bool)) (xs : List Row) (y : Row) (bits : List Bool) → bits ≡ map (λ x. test x y) xs → RawEquality told ⊤ l r xs (replicate (length xs) y) bits
  from-constant l r xs y bits b =
      from-zip l r xs (replicate (length xs) y) bits (length-replicate (length xs) y) (b ∙ sym (zip2_splat test xs (length xs) y refl))

-- truth values that test stored rows
pub equal-values : (l r : Option (List Bool)) (xs ys : List Row) → length xs ≡ length ys → RawEquality true ⊤ l r xs ys (zip2 same_row xs ys)
equal-values l r xs ys e = from-zip true same_row same-told l r xs ys (zip2 same_row xs ys) (sym e) refl

pub unequal-values : (l r : Option (List Bool)) (xs ys : List Row) → length xs ≡ length ys → RawEquality false ⊤ l r xs ys (zip2 other_row xs ys)
unequal-values l r xs ys e = from-zip false other_row other-told l r xs ys (zip2 other_row xs ys) (sym e) refl

-- and bits of windows that do
pub equal-windows : (l r : Option (List Bool)) (xs ys : List Row) (n : ℕ) (bits : List Bool) → n ≡ length xs → length xs ≡ length ys → bits ≡ zip2 same_row (window 0 n xs) (window 0 n ys) → RawEquality true ⊤ l r xs ys bits
equal-windows = from-windows true same_row same-told

pub unequal-windows : (l r : Option (List Bool)) (xs ys : List Row) (n : ℕ) (bits : List Bool) → n ≡ length xs → length xs ≡ length ys → bits ≡ zip2 other_row (window 0 n xs) (window 0 n ys) → RawEquality false ⊤ l r xs ys bits
unequal-windows = from-windows false other_row other-told

pub equal-constant : (l r : Option (List Bool)) (xs : List Row) (y : Row) (bits : List Bool) → bits ≡ map (λ x. same_row x y) xs → RawEquality true ⊤ l r xs (replicate (length xs) y) bits
equal-constant = from-constant true same_row same-told

pub unequal-constant : (l r : Option (List Bool)) (xs : List Row) (y : Row) (bits : List Bool) → bits ≡ map (λ x. other_row x y) xs → RawEquality false ⊤ l r xs (replicate (length xs) y) bits
unequal-constant = from-constant false other_row other-told
