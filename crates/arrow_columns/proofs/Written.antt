-- Numbers that are written one by one.
use Rattle.std.proofs.Common.{◌≡◌, ◌<◌, ◌≤◌, ◌+◌, ◌∙◌, ℕ, List, [], ◌∷◌, ◌++◌, length, map, take, set, sym, ap, ap₂, arith}
use Rattle.std.specs.Prelude.{ℤ, pos, Some, slice_get}
use Rattle.std.proofs.lemmas.List.{map-append, length-set, take_all, take_more, take_more_set}
use Rattle.std.proofs.lemmas.Option.{get_or_from_slice_get}

-- the first n of the written values are the first n numbers, and there are as many of both
pub record WritesFirst {A : Type 0} (value : A → ℤ) (numbers : List ℤ) (n : ℕ) (written : List A) : Type 0 where
  pub count : length written ≡ length numbers
  pub first : map value (take n written) ≡ take n numbers

module _ {A : Type 0} (value : A → ℤ) (numbers : List ℤ) where
  pub writes-one : (n : ℕ) (written : List A) (x : A) → WritesFirst value numbers n written → n < length numbers → slice_get numbers n ≡ Some (value x) → WritesFirst value numbers (n + 1) (set written n x)
  writes-one n written x was low is = record {
    count = length-set written n x ∙ was.count;
    first =
        ap (map value) (take_more_set written n x (omega (arith, low, was.count)))
        ∙ map-append value (take n written) (x ∷ [])
        ∙ ap₂ (λ (xs ys : List ℤ). xs ++ ys) was.first (ap (λ (m : ℤ). m ∷ []) (sym (get_or_from_slice_get numbers n (value x) (pos 0) is)))
        ∙ sym (take_more numbers n (pos 0) low);
  }

  pub writes-all : (n : ℕ) (written : List A) → WritesFirst value numbers n written → length numbers ≤ n → map value written ≡ numbers
  writes-all n written was past =
      sym (ap (map value) (take_all n written (omega (arith, past, was.count)))) ∙ was.first ∙ take_all n numbers past
