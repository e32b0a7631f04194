-- The place that a stored number names.
use Rattle.std.proofs.Common.{◌≡◌, ◌<◌, ℕ, zero, suc, List, [], ◌∷◌, Some, None, length, arith, refl, ap}
use Rattle.std.specs.Prelude.{pos, slice_index}
use Rattle.polars_arrays_bytes.specs.OffsetStrings.{place_at, places}
use Rattle.polars_arrays_nested.specs.DictKeys.{NameEntries}
use Rattle.polars_arrays_nested.specs.Places.{place_or_zero}
use Rattle.diff_pairs.specs.Pairs.{NameRows}

pub place_of : (xs : List ℕ) (i : ℕ) → i < length xs → place_at (places (λ x. pos x) xs) i ≡ Some (slice_index xs i)
place_of [] i h = absurd (omega arith)
place_of (x ∷ xs) zero h = refl
place_of (x ∷ xs) (suc i) h = place_of xs i (omega arith)

pub length_places : (xs : List ℕ) → length (places (λ x. pos x) xs) ≡ length xs
length_places [] = refl
length_places (x ∷ xs) = ap suc (length_places xs)

-- numbers that name rows are good keys
pub names : (n : ℕ) (xs : List ℕ) → NameRows n xs → NameEntries n None (places (λ x. pos x) xs)
names n xs h = λ i within present.
    let inside : i < length xs = omega (arith, length_places xs) in
    rw (place_of xs i inside) (h i inside)

-- the entry that key i names
pub entry_at : (xs : List ℕ) (i : ℕ) → i < length xs → place_or_zero (place_at (places (λ x. pos x) xs) i) ≡ slice_index xs i
entry_at xs i h = ap place_or_zero (place_of xs i h)
