-- Arrays whose rows are stored as the rows of values.
use Rattle.std.specs.Prelude.{◌≡◌, ◌<◌, ◌↔◌, ℕ, Bool, false, IsTrue, List, length}
use Rattle.polars_arrays_flat.specs.Row.{Row, Null}
use Rattle.polars_arrays_flat.specs.StoredRows.{row}
use Rattle.polars_compare_leaves.specs.Sameness.{same_row}
use Rattle.polars_arrays_flat.specs.ArrayRows.{is_null}

-- no value is null, and the test of two rows is equality of values
pub record AreValues {A : Type 0} (value_row : A → Row) : Type 0 where
  pub present : (x : A) → is_null (value_row x) ≡ false
  pub left_null : (x : A) → same_row Null (value_row x) ≡ false
  pub right_null : (x : A) → same_row (value_row x) Null ≡ false
  pub same : (x y : A) → IsTrue (same_row (value_row x) (value_row y)) ↔ (value_row x ≡ value_row y)

-- each of the rows is a value
pub record StoresValues {A : Type 0} (value_row : A → Row) (slots : List Row) : Type 0 where
  pub at_each : (i : ℕ) → i < length slots → (x : A) × (row slots i ≡ value_row x)
