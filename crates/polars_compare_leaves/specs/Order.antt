-- The order of rows.
use Rattle.std.specs.Prelude.{◌≡◌, ◌<◌, ℕ, Bool, false, not, ◌&&◌, IsTrue, List, Option, length}
use Rattle.std.specs.Prelude.{int_lt, slice_index_or}
use Rattle.std.specs.Ordering.{nat_cmp, is_lt}
use Rattle.std.specs.Cmp.Lexicographic.{slice_cmp}
use Rattle.polars_arrays_flat.specs.Row.{Row, Int, Truth, Bytes}
use Rattle.polars_arrays_flat.specs.StoredRows.{row}
use Rattle.polars_arrays_flat.specs.Validity.{is_present}

-- the first row is less: numbers as whole numbers, false before true, bytes lexicographically, a
-- proper prefix first; false for all other rows
abbrev pub row_less : Row → Row → Bool
row_less (Int m) (Int n) = int_lt m n
row_less (Truth a) (Truth b) = not a && b
row_less (Bytes xs) (Bytes ys) = is_lt (slice_cmp nat_cmp xs ys)
row_less x y = false

-- the second row is not less than the first
abbrev pub row_at_most : Row → Row → Bool
row_at_most x y = not (row_less y x)

-- the second row is less than the first
abbrev pub row_greater : Row → Row → Bool
row_greater x y = row_less y x

-- the first row is not less than the second
abbrev pub row_at_least : Row → Row → Bool
row_at_least x y = not (row_less x y)

-- Bits of a test of stored rows: one for each row, right if both rows are present, else arbitrary.
pub record RawOrder (test : Row → Row → Bool) (left_mask right_mask : Option (List Bool))
    (left right : List Row) (bits : List Bool) : Type 0 where
  pub size : length bits ≡ length left
  pub at_present : (i : ℕ) → i < length left → IsTrue (is_present left_mask i)
      → IsTrue (is_present right_mask i)
      → slice_index_or bits i false ≡ test (row left i) (row right i)
