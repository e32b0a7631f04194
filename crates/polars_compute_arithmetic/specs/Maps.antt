-- Functions applied to the stored values of arrays.
use Rattle.std.specs.Prelude.{◌≡◌, ◌<◌, ◌&&◌, ℕ, Bool, List, Option, Some, None, length}
use Rattle.std.specs.Prelude.{slice_index_or}
use Rattle.std.specs.List.{AllZip, zip}
use Rattle.std.specs.Simd.Lanes.{zip2}
use Rattle.polars_arrays_flat.specs.Numbers.{Numbers}
use Rattle.polars_arrays_flat.specs.Validity.{HasBits}

-- each stored value is a result for the value before; nulls stay; there was a bit for each value
pub record MapsEach {A B : Type 0} (Answers : A → B → Type 0) (before : Numbers A)
    (after : Numbers B) : Type 0 where
  pub values : AllZip Answers before.values after.values
  pub nulls : after.validity ≡ before.validity
  pub bits : HasBits (length before.values) before.validity

-- a function may be called on the pairs of values of two lists
abbrev pub TakesPairs : {A B : Type 0} → (A → B → Type 0) → List A → List B → Type 0
TakesPairs Callable xs ys =
    (i : ℕ) (x : _) (y : _) → i < length xs
    → Callable (slice_index_or xs i x) (slice_index_or ys i y)

-- each value is a result for the two values at its place
abbrev pub AllPairs : {A B C : Type 0} → (A → B → C → Type 0) → List A → List B → List C → Type 0
AllPairs Answers xs ys zs = AllZip (λ pair answer. Answers pair.0 pair.1 answer) (zip xs ys) zs

-- two validities, if both exist, have equally many bits
abbrev pub AsLong : Option (List Bool) → Option (List Bool) → Type 0
AsLong left right = (l r : List Bool) → left ≡ Some l → right ≡ Some r → length l ≡ length r

-- a row is present if it is in both validities
abbrev pub joined_validity : Option (List Bool) → Option (List Bool) → Option (List Bool)
joined_validity None right = right
joined_validity (Some left) None = Some left
joined_validity (Some left) (Some right) = Some (zip2 ◌&&◌ left right)

-- each value is a result for two, a row is present if both are; a validity has a bit for each value
pub record MapsPairs {A B C : Type 0} (Answers : A → B → C → Type 0) (left : Numbers A)
    (right : Numbers B) (after : Numbers C) : Type 0 where
  pub values : AllPairs Answers left.values right.values after.values
  pub nulls : after.validity ≡ joined_validity left.validity right.validity
  pub left_bits : HasBits (length left.values) left.validity
  pub right_bits : HasBits (length right.values) right.validity
