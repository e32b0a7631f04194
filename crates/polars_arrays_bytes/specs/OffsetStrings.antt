-- Byte strings between offsets.
use Rattle.std.specs.Prelude.{◌+◌, ◌-◌, ◌≤◌, ◌<◌, ℕ, ℤ, Bool, List, [], Option, Some, None, length}
use Rattle.std.specs.Prelude.{map, slice_index_or, int_le, IsTrue, refl}
use Rattle.std.specs.Coded.{Coded, code_by, coded×, coded_bool, coded_list, coded_ℕ, coded_option}
use Rattle.std.specs.List.{range_with_len}
use Rattle.polars_arrays_flat.specs.Row.{Row}
use Rattle.polars_arrays_flat.specs.StoredRows.{rows_under, byte_slots}
use Rattle.polars_arrays_flat.specs.Validity.{HasBits, window}
use Rattle.polars_arrays_numbers.specs.Naturals.{natural_of}

-- the offsets, the bytes, and the validity
pub record OffsetStrings (A : Type 0) : Type 0 where
  pub offsets : List A
  pub values : List ℕ
  pub validity : Option (List Bool)

-- the code of `OffsetStrings`: the tuple of its three fields
abbrev pub offset_code : {A : Type 0} → Coded A → Coded (OffsetStrings A)
offset_code code =
    code_by (List _ × (List ℕ × Option (List Bool)))
    (coded× (coded_list code)
    (coded× (coded_list coded_ℕ) (coded_option (coded_list coded_bool))))
    (λ a. (a.offsets, (a.values, a.validity)))
    (λ p. record { offsets = p.0; values = p.1.0; validity = p.1.1 }) (λ _. refl)

-- each offset as a place in the bytes, or None if negative; `value` converts an offset to ℤ
abbrev pub places : {A : Type 0} → (A → ℤ) → List A → List (Option ℕ)
places value offsets = map (λ offset. natural_of (value offset)) offsets

-- place i, or None past the end
abbrev pub place_at : List (Option ℕ) → ℕ → Option ℕ
place_at all i = slice_index_or all i None

-- the number of rows: one fewer than offsets, or none without offsets (our own choice)
abbrev pub row_count : {A : Type 0} → List A → ℕ
row_count offsets = length offsets - 1

-- the bytes from one place up to another; none if one of the places is None
abbrev pub between : List ℕ → Option ℕ → Option ℕ → List ℕ
between values (Some from) (Some to) = window from (to - from) values
between values _ _ = []

-- string i is the bytes from place i up to place i + 1 (the Arrow layout)
abbrev pub string_between : List (Option ℕ) → List ℕ → ℕ → List ℕ
string_between all values i = between values (place_at all i) (place_at all (i + 1))

-- the strings between neighbouring places
abbrev pub strings_between : List (Option ℕ) → List ℕ → List (List ℕ)
strings_between all values = map (string_between all values) (range_with_len 0 (row_count all))

-- the strings of an array, including those of masked rows
abbrev pub offset_strings : {A : Type 0} → (A → ℤ) → OffsetStrings A → List (List ℕ)
offset_strings value a = strings_between (places value a.offsets) a.values

-- the rows of an array
abbrev pub offset_rows : {A : Type 0} → (A → ℤ) → OffsetStrings A → List Row
offset_rows value a = rows_under a.validity (byte_slots (offset_strings value a))

-- a place exists and is at most n
abbrev pub IsWithin : ℕ → Option ℕ → Type 0
IsWithin n None = ⊥
IsWithin n (Some at) = at ≤ n

-- two places exist, do not decrease, and are at most n
abbrev pub Bounds : ℕ → Option ℕ → Option ℕ → Type 0
Bounds n (Some from) (Some to) = (from ≤ to) × (to ≤ n)
Bounds n _ _ = ⊥

-- row i is good for n bytes: its two places exist, do not decrease, and are at most n
abbrev pub IsGoodRow : ℕ → List (Option ℕ) → ℕ → Type 0
IsGoodRow n all i = Bounds n (place_at all i) (place_at all (i + 1))

-- the first place, which need not be 0, is at most n, and each row is good
pub record AreGood (n : ℕ) (all : List (Option ℕ)) : Type 0 where
  pub first : IsWithin n (place_at all 0)
  pub rows : (i : ℕ) → i < row_count all → IsGoodRow n all i

-- no offset is less than the one before it
abbrev pub AreRising : {A : Type 0} → (A → ℤ) → List A → Type 0
AreRising value offsets =
    (i : ℕ) → i < row_count offsets → (d : _)
    → IsTrue (int_le (value (slice_index_or offsets i d))
    (value (slice_index_or offsets (i + 1) d)))

-- the parts make an array: a validity has a bit for each row, and the offsets are good
pub record AreBounded {A : Type 0} (value : A → ℤ) (a : OffsetStrings A) : Type 0 where
  pub bits : HasBits (row_count a.offsets) a.validity
  pub good : AreGood (length a.values) (places value a.offsets)
