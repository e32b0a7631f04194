-- The first fault of parts that do not make an array.
use Rattle.std.specs.Prelude.{◌≡◌, ◌<◌, ℕ, ℤ, List, [], ◌∷◌, Option, length}
use Rattle.polars_arrays_bits.specs.declared.error.ArrayError.{ArrayError}
use Rattle.polars_arrays_bits.specs.declared.error.ArrayError.TheVariants.{Length, Offsets}
use Rattle.polars_arrays_flat.specs.Validity.{HasBits}
use Rattle.polars_arrays_bytes.specs.OffsetStrings.{OffsetStrings, places, row_count, IsWithin}
use Rattle.polars_arrays_bytes.specs.OffsetStrings.{IsGoodRow}

-- row `row` is bad for n bytes; without rows, row 0 is bad if no offset is in 0 to n
abbrev pub IsBadRow : ℕ → List (Option ℕ) → ℕ → Type 0
IsBadRow n [] row = row ≡ 0
IsBadRow n (only ∷ []) row = (row ≡ 0) × ¬ (IsWithin n only)
IsBadRow n (first ∷ second ∷ rest) row =
    (row < row_count (first ∷ second ∷ rest)) × ¬ (IsGoodRow n (first ∷ second ∷ rest) row)

-- `row` is the first bad row
pub record IsFirstBad (n : ℕ) (all : List (Option ℕ)) (row : ℕ) : Type 0 where
  pub bad : IsBadRow n all row
  pub before : (k : ℕ) → k < row → IsGoodRow n all k

-- the error for parts that do not make an array; the validity is checked before the offsets
abbrev pub IsFirstFault : {A : Type 0} → (A → ℤ) → OffsetStrings A → ArrayError → Type 0
IsFirstFault value a Length = ¬ (HasBits (row_count a.offsets) a.validity)
IsFirstFault value a (Offsets row) =
    HasBits (row_count a.offsets) a.validity
    × IsFirstBad (length a.values) (places value a.offsets) row
IsFirstFault value a _ = ⊥
