-- Equality of the rows of two arrays, with and without regard to null.
use Rattle.std.specs.Prelude.{◌≡◌, ◌≢◌, ◌<◌, ◌↔◌, ◌⊎◌, ℕ, Bool, false, IsTrue, List, Option, length}
use Rattle.std.specs.Prelude.{slice_index_or}
use Rattle.polars_arrays_flat.specs.Row.{Row, Null}
use Rattle.polars_arrays_flat.specs.StoredRows.{row}
use Rattle.polars_arrays_flat.specs.Validity.{is_present}

-- Bits of raw equality (`told` true) or raw inequality (`told` false): one for each row. A bit is
-- right if both rows are present, and arbitrary otherwise. Rows are equal only if `one_type` holds:
-- if both arrays have the same type.
pub record RawEquality (told : Bool) (one_type : Type 0) (left_mask right_mask : Option (List Bool))
    (left right : List Row) (bits : List Bool) : Type 0 where
  pub size : length bits ≡ length left
  pub at_present : (i : ℕ) → i < length left → IsTrue (is_present left_mask i)
      → IsTrue (is_present right_mask i)
      → (slice_index_or bits i false ≡ told) ↔ (one_type × (row left i ≡ row right i))

-- two rows are equal: both are null, or neither is, `one_type` holds and they are the same
abbrev pub EqualRows : Type 0 → Row → Row → Type 0
EqualRows one_type x y = ((x ≡ Null) × (y ≡ Null)) ⊎ ((x ≢ Null) × (y ≢ Null) × one_type × (x ≡ y))

-- Bits of missing equality (`told` true) or missing inequality (`told` false), one for each row.
pub record MissingEquality (told : Bool) (one_type : Type 0) (left right : List Row)
    (bits : List Bool) : Type 0 where
  pub size : length bits ≡ length left
  pub at_each : (i : ℕ) → i < length left → (slice_index_or bits i false ≡ told)
      ↔ EqualRows one_type (row left i) (row right i)
