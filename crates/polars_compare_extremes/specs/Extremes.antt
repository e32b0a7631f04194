-- The least and the greatest of the present rows.
use Rattle.std.specs.Prelude.{◌≡◌, ◌≢◌, ◌<◌, ℕ, Bool, true, false, List, length}
use Rattle.polars_arrays_flat.specs.Row.{Row, Null}
use Rattle.polars_arrays_flat.specs.StoredRows.{row}
use Rattle.polars_compare_leaves.specs.Order.{row_less, row_greater}

-- no row is present
abbrev pub NonePresent : List Row → Type 0
NonePresent rows = (k : ℕ) → k < length rows → row rows k ≡ Null

-- row `place` is the first best row: it is present, no present row is better, and it is better than
-- each present row before it
pub record IsBest (better : Row → Row → Bool) (rows : List Row) (place : ℕ) : Type 0 where
  pub within : place < length rows
  pub present : row rows place ≢ Null
  pub best : (k : ℕ) → k < length rows → row rows k ≢ Null → better (row rows k) (row rows place)
      ≡ false
  pub first : (k : ℕ) → k < place → row rows k ≢ Null → better (row rows place) (row rows k) ≡ true

-- `found` is the first best row
pub record FindsBest (better : Row → Row → Bool) (rows : List Row) (found : Row) : Type 0 where
  pub place : ℕ
  pub is_best : IsBest better rows place
  pub is_row : found ≡ row rows place

-- the least present row: no present row is less
abbrev pub IsLeast : List Row → Row → Type 0
IsLeast rows found = FindsBest row_less rows found

-- the greatest present row: no present row is greater
abbrev pub IsGreatest : List Row → Row → Type 0
IsGreatest rows found = FindsBest row_greater rows found
