-- Windows of lists, of places and of a validity.
use Rattle.std.proofs.Common.{◌≡◌, ◌<◌, ◌≤◌, ◌+◌, ℕ, zero, suc, Bool, false, List, [], ◌∷◌, length, get_or, drop, refl, ap, sym, subst, ◌∙◌, arith}
use Rattle.std.specs.Prelude.{Option, Some, None, IfSome}
use Rattle.std.proofs.lemmas.List.{length-take, length-drop, get_or-take, get_or-drop}
use Rattle.polars_arrays_bytes.specs.OffsetStrings.{AreGood, Bounds, IsWithin, place_at, row_count}
use Rattle.polars_arrays_flat.specs.Row.{Row, Null}
use Rattle.polars_arrays_flat.specs.StoredRows.{row as row_at}
use Rattle.polars_arrays_flat.specs.Validity.{HasBits, is_present, validity_window, window}

pub length-window : {A : Type 0} (at n : ℕ) (xs : List A) → at + n ≤ length xs → length (window at n xs) ≡ n
length-window at n xs within = omega (arith, within, length-take n (drop at xs), length-drop at xs)

pub get_or-window : {A : Type 0} (at n : ℕ) (xs : List A) (i : ℕ) (d : A) → i < n → get_or (window at n xs) i d ≡ get_or xs (at + i) d
get_or-window at n xs i d below = get_or-take n (drop at xs) i d below ∙ get_or-drop at xs i d

-- a row of a window of rows
pub row-window : (at n : ℕ) (xs ys : List Row) (i : ℕ) → xs ≡ window at n ys → i < n → row_at xs i ≡ row_at ys (at + i)
row-window at n xs ys i cut below = ap (λ (rows : List Row). row_at rows i) cut ∙ get_or-window at n ys i Null below

pub present-window : (at n : ℕ) (validity : Option (List Bool)) (i : ℕ) → i < n → is_present (validity_window at n validity) i ≡ is_present validity (at + i)
present-window at n None i below = refl
present-window at n (Some bits) i below = get_or-window at n bits i false below

pub bits-window : (len at n : ℕ) (validity : Option (List Bool)) → HasBits len validity → at + n ≤ len → HasBits n (validity_window at n validity)
bits-window len at n None bits within = tt
bits-window len at n (Some all) bits within = length-window at n all (omega (arith, bits, within))

-- a validity of `len` rows has a bit for each of fewer
pub reaches : (len k : ℕ) (validity : Option (List Bool)) → HasBits len validity → k ≤ len → IfSome validity (λ bits. k ≤ length bits)
reaches len k None bits within = tt
reaches len k (Some all) bits within = omega (arith, bits, within)

-- the places at both ends of a row
ends-window : (at n : ℕ) (all : List (Option ℕ)) (i : ℕ) → i < n → (place_at (window at (n + 1) all) i ≡ place_at all (at + i)) × (place_at (window at (n + 1) all) (i + 1) ≡ place_at all (at + i + 1))
ends-window at n all i below = (
  get_or-window at (n + 1) all i None (omega (arith, below)),
  get_or-window at (n + 1) all (i + 1) None (omega (arith, below)) ∙ ap (place_at all) (omega arith),
)

-- the start of a row is within the items, and so is its end
start_within : (n : ℕ) (from to : Option ℕ) → Bounds n from to → IsWithin n from
start_within n (Some from) (Some to) bounds = omega (arith, bounds.0, bounds.1)
start_within n None (Some to) bounds = absurd bounds
start_within n (Some from) None bounds = absurd bounds
start_within n None None bounds = absurd bounds

end_within : (n : ℕ) (from to : Option ℕ) → Bounds n from to → IsWithin n to
end_within n (Some from) (Some to) bounds = bounds.1
end_within n None (Some to) bounds = absurd bounds
end_within n (Some from) None bounds = absurd bounds
end_within n None None bounds = absurd bounds

-- each place of good ones is within the items
pub place_within : (n : ℕ) (all : List (Option ℕ)) (i : ℕ) → AreGood n all → i < length all → IsWithin n (place_at all i)
place_within n all zero good below = good.first
place_within n all (suc i) good below =
    let row = subst (λ (k : ℕ). Bounds n (place_at all i) (place_at all k)) (omega arith) (good.rows i (omega (arith, below))) in
    end_within n (place_at all i) (place_at all (suc i)) row

-- a window of good places is good
pub good-window : (m at n : ℕ) (all : List (Option ℕ)) → AreGood m all → at + n < length all → AreGood m (window at (n + 1) all)
good-window m at n all good within = record {
  first = subst (IsWithin m) (sym (get_or-window at (n + 1) all 0 None (omega arith))) (place_within m all (at + 0) good (omega (arith, within)));
  rows =
      λ i below.
      let inside : i < n = omega (arith, below, within, length-window at (n + 1) all (omega (arith, within))) in
      let ends = ends-window at n all i inside in
      let row = good.rows (at + i) (omega (arith, within, inside)) in
      subst (λ (p : Option ℕ). Bounds m p (place_at (window at (n + 1) all) (i + 1))) (sym ends.0) (subst (Bounds m (place_at all (at + i))) (sym ends.1) row);
}

-- good places are one more than their rows
pub one_more : (m : ℕ) (all : List (Option ℕ)) (k : ℕ) → AreGood m all → k ≤ row_count all → k < length all
one_more m [] k good within = absurd good.first
one_more m (first ∷ rest) k good within = omega (arith, within)

pub ruleset window_bits = (length-window, bits-window)
