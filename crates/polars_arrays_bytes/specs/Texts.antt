-- Byte strings that are texts.
use Rattle.std.specs.Prelude.{◌≡◌, ◌<◌, ◌≤◌, ℕ, ℤ, List, [], Option, Some, length, slice_index_or}
use Rattle.std.specs.List.{All}
use Rattle.std.specs.Str.{IsUtf8}
use Rattle.polars_arrays_bits.specs.declared.error.ArrayError.{ArrayError}
use Rattle.polars_arrays_bits.specs.declared.error.ArrayError.TheVariants.{Length, Offsets, NotUtf8}
use Rattle.polars_arrays_flat.specs.Validity.{HasBits}
use Rattle.polars_arrays_bytes.specs.Faults.{IsFirstBad}
use Rattle.polars_arrays_bytes.specs.OffsetStrings.{OffsetStrings, place_at, places, row_count}
use Rattle.polars_arrays_bytes.specs.OffsetStrings.{offset_strings, AreBounded}

-- each string alone is UTF-8
abbrev pub AreTexts : List (List ℕ) → Type 0
AreTexts strings = All IsUtf8 strings

-- the byte at a place, if that is below the end, does not continue a character
abbrev pub IsBegun : List ℕ → ℕ → ℕ → Type 0
IsBegun values end at = at < end → 128 ≤ slice_index_or values at 0
    → 192 ≤ slice_index_or values at 0

-- no row begins with a byte that continues a character
abbrev pub AreBegun : List (Option ℕ) → List ℕ → ℕ → Type 0
AreBegun all values end =
    (i : ℕ) → i < row_count all → (at : ℕ) → place_at all i ≡ Some at → IsBegun values end at

-- string `row` is the first that is not UTF-8
pub record IsFirstOther (strings : List (List ℕ)) (row : ℕ) : Type 0 where
  pub within : row < length strings
  pub other : ¬ (IsUtf8 (slice_index_or strings row []))
  pub before : (k : ℕ) → k < row → IsUtf8 (slice_index_or strings k [])

-- the parts make an array of byte strings, and these are texts
pub record AreTextParts {A : Type 0} (value : A → ℤ) (a : OffsetStrings A) : Type 0 where
  pub bounded : AreBounded value a
  pub texts : AreTexts (offset_strings value a)

-- the error for parts that are no texts; validity, offsets and bytes are checked in this order
abbrev pub IsFirstTextFault : {A : Type 0} → (A → ℤ) → OffsetStrings A → ArrayError → Type 0
IsFirstTextFault value a Length = ¬ (HasBits (row_count a.offsets) a.validity)
IsFirstTextFault value a (Offsets row) =
    HasBits (row_count a.offsets) a.validity
    × IsFirstBad (length a.values) (places value a.offsets) row
IsFirstTextFault value a (NotUtf8 row) = AreBounded value a
    × IsFirstOther (offset_strings value a) row
IsFirstTextFault value a _ = ⊥
