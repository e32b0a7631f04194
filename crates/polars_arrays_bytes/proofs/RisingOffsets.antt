-- Offsets that rise from the first to the last, both within the bytes, are good.
use Rattle.std.proofs.Common.{◌≡◌, ◌<◌, ◌≤◌, ◌+◌, ◌-◌, ℕ, ℤ, pos, negsuc, zero, suc, List, [], ◌∷◌, length, get_or, refl, ap, sym, subst, ◌∙◌, arith}
use Rattle.std.specs.Prelude.{Option, Some, None, int_le, IsTrue}
use Rattle.std.proofs.lemmas.Bool.{leb-true}
use Rattle.polars_arrays_numbers.specs.Naturals.{natural_of}
use Rattle.polars_arrays_bytes.specs.OffsetStrings.{place_at, places, row_count, IsWithin, Bounds, IsGoodRow, AreGood, AreRising}
use Rattle.polars_arrays_bytes.proofs.OffsetWindows.{length-places, place_of}

-- a place that is at least another one
record After (p : Option ℕ) (a : ℕ) : Type 0 where
  pub at : ℕ
  pub is : p ≡ Some at
  pub rising : a ≤ at

abbrev held : Option ℕ → ℕ
held (Some at) = at
held None = 0

next_natural : (x y : ℤ) (a : ℕ) → IsTrue (int_le x y) → natural_of x ≡ Some a → After (natural_of y) a
next_natural (pos m) (pos n) a less is = record {
  at = n;
  is = refl;
  rising = omega (arith, leb-true m n less, ap held is);
}
next_natural (pos m) (negsuc n) a less is = cc
next_natural (negsuc m) y a less is = cc

-- from a place to each later one
climb : {A : Type 0} (value : A → ℤ) (offsets : List A) (d : A) → AreRising value offsets → (i k a : ℕ) → i + k < length offsets → place_at (places value offsets) i ≡ Some a → After (place_at (places value offsets) (i + k)) a
climb value offsets d rising i zero a below is = record {
  at = a;
  is = ap (place_at (places value offsets)) (omega arith) ∙ is;
  rising = omega arith;
}
climb value offsets d rising i (suc k) a below is =
    let all = places value offsets in
    let last = climb value offsets d rising i k a (omega (arith, below)) is in
    let next = next_natural (value (get_or offsets (i + k) d)) (value (get_or offsets (i + k + 1) d)) last.at (rising (i + k) (omega (arith, below)) d) (sym (place_of value offsets (i + k) d (omega (arith, below))) ∙ last.is) in
    record {
      at = next.at;
      is = ap (place_at all) (omega arith) ∙ place_of value offsets (i + k + 1) d (omega (arith, below)) ∙ next.is;
      rising = omega (arith, last.rising, next.rising);
    }

within_first : (n : ℕ) (p : Option ℕ) → IsWithin n p → After p 0
within_first n (Some at) within = record { at = at; is = refl; rising = omega arith }
within_first n None within = absurd within

row_good : {A : Type 0} (value : A → ℤ) (n : ℕ) (offsets : List A) (d : A) → IsWithin n (place_at (places value offsets) 0) → IsWithin n (place_at (places value offsets) (row_count offsets)) → AreRising value offsets → (i : ℕ) → i < row_count offsets → IsGoodRow n (places value offsets) i
row_good value n offsets d first last rising i below =
    let all = places value offsets in
    let start = within_first n (place_at all 0) first in
    let from = climb value offsets d rising 0 i start.at (omega (arith, below)) start.is in
    let from_is : place_at all i ≡ Some from.at = ap (place_at all) (omega arith) ∙ from.is in
    let to = climb value offsets d rising i 1 from.at (omega (arith, below)) from_is in
    let end = climb value offsets d rising (i + 1) (row_count offsets - (i + 1)) to.at (omega (arith, below)) to.is in
    let high : end.at ≤ n = subst (IsWithin n) (ap (place_at all) (omega (arith, below)) ∙ end.is) last in
    subst (λ (p : Option ℕ). Bounds n p (place_at all (i + 1))) (sym from_is)
    (subst (Bounds n (Some from.at)) (sym to.is) (omega (arith, to.rising), omega (arith, high, end.rising)))

pub rising_good : {A : Type 0} (value : A → ℤ) (n : ℕ) (offsets : List A) → IsWithin n (place_at (places value offsets) 0) → IsWithin n (place_at (places value offsets) (row_count offsets)) → AreRising value offsets → AreGood n (places value offsets)
rising_good value n [] first last rising = absurd first
rising_good value n (d ∷ rest) first last rising = record {
  first = first;
  rows = λ i below. row_good value n (d ∷ rest) d first last rising i (omega (arith, below, length-places value (d ∷ rest)));
}
