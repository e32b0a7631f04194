-- Places in a search for an extreme, over stored rows and a mask.
use Rattle.std.specs.Prelude.{◌≡◌, ◌<◌, ℕ, Bool, true, false, List, [], Option, slice_index_or}
use Rattle.polars_arrays_flat.specs.Row.{Row, Bytes}
use Rattle.polars_arrays_flat.specs.Validity.{is_present}

-- the byte string at place i, as a row
abbrev pub string_row : List (List ℕ) → ℕ → Row
string_row strings i = Bytes (slice_index_or strings i [])

-- of n rows, row i is the first present one
pub record IsFirstPresent (n : ℕ) (mask : Option (List Bool)) (i : ℕ) : Type 0 where
  pub within : i < n
  pub present : is_present mask i ≡ true
  pub before : (k : ℕ) → k < i → is_present mask k ≡ false

-- of the first n stored rows, given by `slot`, the one at `place` is the first best present one
pub record IsBestSlot (better : Row → Row → Bool) (slot : ℕ → Row) (mask : Option (List Bool))
    (n place : ℕ) : Type 0 where
  pub within : place < n
  pub present : is_present mask place ≡ true
  pub best : (k : ℕ) → k < n → is_present mask k ≡ true → better (slot k) (slot place) ≡ false
  pub first : (k : ℕ) → k < place → is_present mask k ≡ true → better (slot place) (slot k) ≡ true
