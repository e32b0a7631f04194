-- Places of lent offsets: offsets less a base.
use Rattle.std.proofs.Common.{◌≡◌, ℕ, zero, suc, ◌+◌, ◌-◌, ◌≤◌, ◌<◌, ℤ, Bool, true, false, List, [], ◌∷◌, length, get_or, map, take, drop, refl, sym, ap, subst, ◌∙◌, inl, inr, arith}
use Rattle.std.specs.Prelude.{Option, Some, None, if◌then◌else◌, nat_le}
use Rattle.std.proofs.lemmas.Bool.{cases_lt, le-leb, lt-leb}
use Rattle.std.proofs.lemmas.List.{length-map, take_rest}
use Rattle.polars_arrays_numbers.specs.Naturals.{natural_of}
use Rattle.polars_arrays_bytes.specs.OffsetStrings.{AreGood, Bounds, IsGoodRow, IsWithin, between, place_at, places, row_count, string_between}
use Rattle.polars_arrays_bytes.proofs.OffsetWindows.{length-places, place_read}
use Rattle.polars_arrays_bytes.proofs.WholeTexts.{Ends, rises}
use Rattle.arrow_parts.specs.Lent.{place_from, places_from}

-- ---- one place

chosen : (b : Bool) (x y : Option ℕ) → b ≡ true → (if b then x else y) ≡ x
chosen true x y is = refl
chosen false x y is = cc

not-chosen : (b : Bool) (x y : Option ℕ) → b ≡ false → (if b then x else y) ≡ y
not-chosen true x y is = cc
not-chosen false x y is = refl

-- an offset that is missing is no place
pub lent-there : (base : ℕ) (offset : Option ℕ) → (place_from base offset ≡ None → ⊥) → offset ≡ None → ⊥
lent-there base None some none = some refl
lent-there base (Some at) some none = cc

-- a place at the base, or behind it
pub lent-is : (base at : ℕ) (offset : Option ℕ) → offset ≡ Some at → base ≤ at → place_from base offset ≡ Some (at - base)
lent-is base at offset is above =
    ap (place_from base) is ∙ chosen (nat_le base at) (Some (at - base)) None (le-leb base at above)

lent-before : (base at : ℕ) (offset : Option ℕ) → offset ≡ Some at → at < base → place_from base offset ≡ None
lent-before base at offset is before =
    ap (place_from base) is ∙ not-chosen (nat_le base at) (Some (at - base)) None (lt-leb base at before)

-- a place that is lent does not lie before the base
pub lent-above : (base at : ℕ) (offset : Option ℕ) → offset ≡ Some at → (place_from base offset ≡ None → ⊥) → base ≤ at
lent-above base at offset is some = elim (cases_lt at base) [
  | inl before ↦ absurd (some (lent-before base at offset is before))
  | inr above ↦ above
]

pub ruleset lent = (lent-there, lent-is, lent-above)

-- ---- places in their list

pub length-lent : {A : Type 0} (value : A → ℤ) (base : ℕ) (offsets : List A) → length (places_from base value offsets) ≡ length offsets
length-lent value base offsets =
    length-map (places value offsets) (place_from base) ∙ length-places value offsets

-- the place at an index
pub place-mapped : (base : ℕ) (all : List (Option ℕ)) (i : ℕ) → place_at (map (place_from base) all) i ≡ place_from base (place_at all i)
place-mapped base [] zero = refl
place-mapped base [] (suc i) = refl
place-mapped base (p ∷ all) zero = refl
place-mapped base (p ∷ all) (suc i) = place-mapped base all i

-- a place that was read
pub place-lent : {A : Type 0} (value : A → ℤ) (base : ℕ) (offsets : List A) (i : ℕ) (x : A) → x ≡ get_or offsets i x → i < length offsets → place_at (places_from base value offsets) i ≡ place_from base (natural_of (value x))
place-lent value base offsets i x is below =
    place-mapped base (places value offsets) i ∙ ap (place_from base) (place_read value offsets i x is below)

-- ---- rows

-- both ends of a good row are there
start_there : (n : ℕ) (from to : Option ℕ) → Bounds n from to → from ≡ None → ⊥
start_there n (Some from) (Some to) bounds none = cc
start_there n None (Some to) bounds none = absurd bounds
start_there n (Some from) None bounds none = absurd bounds
start_there n None None bounds none = absurd bounds

end_there : (n : ℕ) (from to : Option ℕ) → Bounds n from to → to ≡ None → ⊥
end_there n (Some from) (Some to) bounds none = cc
end_there n None (Some to) bounds none = absurd bounds
end_there n (Some from) None bounds none = absurd bounds
end_there n None None bounds none = absurd bounds

pub start-lent : {A : Type 0} (value : A → ℤ) (base n : ℕ) (offsets : List A) (i : ℕ) (x : A) → x ≡ get_or offsets i x → i < row_count offsets → IsGoodRow n (places_from base value offsets) i → place_from base (natural_of (value x)) ≡ None → ⊥
start-lent value base n offsets i x is below good none =
    start_there n (place_at (places_from base value offsets) i) (place_at (places_from base value offsets) (i + 1)) good (place-lent value base offsets i x is (omega (arith, below)) ∙ none)

pub end-lent : {A : Type 0} (value : A → ℤ) (base n : ℕ) (offsets : List A) (i : ℕ) (y : A) → y ≡ get_or offsets (i + 1) y → i < row_count offsets → IsGoodRow n (places_from base value offsets) i → place_from base (natural_of (value y)) ≡ None → ⊥
end-lent value base n offsets i y is below good none =
    end_there n (place_at (places_from base value offsets) i) (place_at (places_from base value offsets) (i + 1)) good (place-lent value base offsets (i + 1) y is (omega (arith, below)) ∙ none)

-- the places where row i begins and ends
pub record LendsRow (all : List (Option ℕ)) (i from to : ℕ) : Type 0 where
  pub start : place_at all i ≡ Some from
  pub end : place_at all (i + 1) ≡ Some to

pub lends_row : {A : Type 0} (value : A → ℤ) (base : ℕ) (offsets : List A) (i : ℕ) (x y : A) (from to : ℕ) → i < row_count offsets → x ≡ get_or offsets i x → place_from base (natural_of (value x)) ≡ Some from → y ≡ get_or offsets (i + 1) y → place_from base (natural_of (value y)) ≡ Some to → LendsRow (places_from base value offsets) i from to
lends_row value base offsets i x y from to below x_is start y_is end = record {
  start = place-lent value base offsets i x x_is (omega (arith, below)) ∙ start;
  end = place-lent value base offsets (i + 1) y y_is (omega (arith, below)) ∙ end;
}

-- they bound the row
pub lent_bounds : (n : ℕ) (all : List (Option ℕ)) (i from to : ℕ) → LendsRow all i from to → IsGoodRow n all i → (from ≤ to) × (to ≤ n)
lent_bounds n all i from to reads good =
    subst (Bounds n (Some from)) reads.end (subst (λ (p : Option ℕ). Bounds n p (place_at all (i + 1))) reads.start good)

-- all bytes from its start on begin with the row's
pub lent_on : (all : List (Option ℕ)) (values : List ℕ) (i from to : ℕ) → LendsRow all i from to → take (to - from) (take (length values - from) (drop from values)) ≡ string_between all values i
lent_on all values i from to reads =
    ap (take (to - from)) (take_rest values from)
    ∙ sym (ap (λ (p : Option ℕ). between values p (place_at all (i + 1))) reads.start ∙ ap (between values (Some from)) reads.end)

-- ---- good places

-- good places have a first one
pub lent-some : {A : Type 0} (value : A → ℤ) (base n : ℕ) (offsets : List A) → AreGood n (places_from base value offsets) → row_count offsets < length offsets
lent-some value base n [] good = absurd good.first
lent-some value base n (first ∷ rest) good = omega arith

pub lent-some-good : {A : Type 0} (value : A → ℤ) (n : ℕ) (offsets : List A) → AreGood n (places value offsets) → 0 < length offsets
lent-some-good value n [] good = absurd good.first
lent-some-good value n (first ∷ rest) good = omega arith

row-lent : (base n : ℕ) (from to : Option ℕ) → Bounds (base + n) from to → ((a : ℕ) → from ≡ Some a → base ≤ a) → Bounds n (place_from base from) (place_from base to)
row-lent base n (Some a) (Some b) bounds above =
    let low : base ≤ a = above a refl in
    subst (λ (p : Option ℕ). Bounds n p (place_from base (Some b))) (sym (lent-is base a (Some a) refl low))
    (subst (Bounds n (Some (a - base))) (sym (lent-is base b (Some b) refl (omega (arith, low, bounds.0)))) (omega (arith, bounds.0), omega (arith, bounds.1)))
row-lent base n None (Some b) bounds above = absurd bounds
row-lent base n (Some a) None bounds above = absurd bounds
row-lent base n None None bounds above = absurd bounds

-- places that are good before the base is taken off, the first one not before the base
pub lent-good : (base n first : ℕ) (all : List (Option ℕ)) → AreGood (base + n) all → place_at all 0 ≡ Some first → base ≤ first → AreGood n (map (place_from base) all)
lent-good base n first all good start above = record {
  first =
      let high : first ≤ base + n = subst (IsWithin (base + n)) start good.first in
      subst (IsWithin n) (sym (place-mapped base all 0 ∙ lent-is base first (place_at all 0) start above)) (omega (arith, high));
  rows = λ i below.
      let row : i < row_count all = omega (arith, below, length-map all (place_from base)) in
      subst (λ (p : Option ℕ). Bounds n p (place_at (map (place_from base) all) (i + 1))) (sym (place-mapped base all i))
      (subst (Bounds n (place_from base (place_at all i))) (sym (place-mapped base all (i + 1)))
      (row-lent base n (place_at all i) (place_at all (i + 1)) (good.rows i row) (λ a is.
      let rising : first ≤ a = rises (base + n) all good 0 i first a (omega (arith, row)) start (ap (place_at all) (omega arith) ∙ is) in
      omega (arith, above, rising))));
}

-- the ends of the bytes that lent strings use
pub lent_ends : {A : Type 0} (value : A → ℤ) (base : ℕ) (offsets : List A) (n from to : ℕ) → AreGood n (places_from base value offsets) → place_at (places_from base value offsets) 0 ≡ Some from → place_at (places_from base value offsets) (row_count offsets) ≡ Some to → Ends n (places_from base value offsets) from to
lent_ends value base offsets n from to good start end = record {
  good = good;
  start = start;
  end = ap (λ (k : ℕ). place_at (places_from base value offsets) (k - 1)) (length-lent value base offsets) ∙ end;
}
