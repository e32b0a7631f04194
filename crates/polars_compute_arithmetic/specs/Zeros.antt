-- Masks of zeros.
use Rattle.std.specs.Prelude.{◌≡◌, ◌<◌, ◌&&◌, ℕ, zero, suc, ℤ, pos, negsuc, Bool, true, false}
use Rattle.std.specs.Prelude.{length, slice_index_or}
use Rattle.polars_arrays_flat.specs.Numbers.{Numbers}
use Rattle.polars_arrays_flat.specs.Validity.{HasBits, is_present}
use Rattle.polars_compute_arithmetic.specs.Maps.{MapsEach, MapsPairs}

-- a number other than 0
abbrev pub is_nonzero : ℤ → Bool
is_nonzero (pos zero) = false
is_nonzero (pos (suc n)) = true
is_nonzero (negsuc n) = true

-- zeros are masked too, and stored values stay; there is a bit for each value, before and after
pub record MasksZeros {A : Type 0} (value : A → ℤ) (before after : Numbers A) : Type 0 where
  pub values : after.values ≡ before.values
  pub present : (i : ℕ) (x : A) → i < length before.values → x ≡ slice_index_or before.values i x
      → is_present after.validity i ≡ (is_present before.validity i && is_nonzero (value x))
  pub bits_before : HasBits (length before.values) before.validity
  pub bits_after : HasBits (length after.values) after.validity

-- each stored value is a result for the value before, and rows that were 0 are masked as well
pub record DividesEach {A : Type 0} (value : A → ℤ) (Answers : A → A → Type 0)
    (before after : Numbers A) : Type 0 where
  pub between : Numbers A
  pub masks : MasksZeros value before between
  pub maps : MapsEach Answers between after

-- each value is a result for two; a row is present if both are and the right one is not 0
pub record DividesPairs {A : Type 0} (value : A → ℤ) (Answers : A → A → A → Type 0)
    (left right after : Numbers A) : Type 0 where
  pub between : Numbers A
  pub masks : MasksZeros value right between
  pub maps : MapsPairs Answers left between after
