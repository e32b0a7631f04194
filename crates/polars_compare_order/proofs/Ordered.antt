-- Stored rows that are tested place by place are in order where the test says so.
use Rattle.std.proofs.Common.{◌≡◌, ◌∙◌, ℕ, zero, suc, Bool, false, List, [], ◌∷◌, Option, length, map, take, drop, replicate, refl, sym, ap, ap₂, arith}
use Rattle.std.specs.Simd.Lanes.{zip2}
use Rattle.std.proofs.lemmas.List.{length-replicate}
use Rattle.std.proofs.lemmas.Simd.{get_or-zip2, zip2_splat}
use Rattle.polars_arrays_flat.specs.Row.{Row, Null}
use Rattle.polars_arrays_flat.specs.Validity.{window}
use Rattle.polars_compare_leaves.specs.Order.{RawOrder}

length-zip2 : {A B C : Type 0} (f : A → B → C) (xs : List A) (ys : List B) → length ys ≡ length xs → length (zip2 f xs ys) ≡ length xs
length-zip2 f [] ys e = refl
length-zip2 f (x ∷ xs) [] e = absurd (omega arith)
length-zip2 f (x ∷ xs) (y ∷ ys) e = ap suc (length-zip2 f xs ys (omega arith))

-- all of a list, as a window of it
whole : {A : Type 0} (xs : List A) (n : ℕ) → n ≡ length xs → take n (drop 0 xs) ≡ xs
whole [] zero e = refl
whole [] (suc n) e = absurd (omega arith)
whole (x ∷ xs) zero e = absurd (omega arith)
whole (x ∷ xs) (suc n) e = ap (λ (ys : List _). x ∷ ys) (whole xs n (omega arith))

module _ (test : Row → Row → Bool) (l r : Option (List Bool)) where
  from-zip : (xs ys : List Row) (bits : List Bool) → length ys ≡ length xs → bits ≡ zip2 test xs ys → RawOrder test l r xs ys bits
  from-zip xs ys bits e b = record {
    size = rw b (length-zip2 test xs ys e);
    at_present = λ i h p q. rw b (get_or-zip2 test xs ys i Null Null false h (omega arith));
  }

  pub ordered-windows : (xs ys : List Row) (n : ℕ) (bits : List Bool) → n ≡ length xs → length ys ≡ length xs → bits ≡ zip2 test (window 0 n xs) (window 0 n ys) → RawOrder test l r xs ys bits
  ordered-windows xs ys n bits all e b =
      from-zip xs ys bits e (b ∙ ap₂ (λ (us vs : List Row). zip2 test us vs) (whole xs n all) (whole ys n (all ∙ sym e)))

  pub ordered-constant : (xs : List Row) (y : Row) (bits : List Bool) → bits ≡ map (λ x. test x y) xs → RawOrder test l r xs (replicate (length xs) y) bits
  ordered-constant xs y bits b =
      from-zip xs (replicate (length xs) y) bits (length-replicate (length xs) y) (b ∙ sym (zip2_splat test xs (length xs) y refl))
