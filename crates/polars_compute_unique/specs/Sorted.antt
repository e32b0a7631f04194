-- Distinct rows of arrays in which equal rows are adjacent.
use Rattle.std.specs.Prelude.{◌≡◌, ◌<◌, ◌≤◌, ◌++◌, ℕ, List, [], ◌∷◌, length, not, count_by}
use Rattle.std.specs.Prelude.{slice_index_or, Contains}
use Rattle.std.specs.Borrow.{Bor}
use Rattle.polars_arrays_flat.specs.ArrayRows.{is_null}
use Rattle.polars_arrays_flat.specs.Row.{Row}
use Rattle.polars_arrays_flat.specs.StoredRows.{row}

-- all rows between two equal rows are equal to them
abbrev pub AreAdjacent : List Row → Type 0
AreAdjacent rows = (i j k : ℕ) → i ≤ j → j ≤ k → k < length rows → row rows i ≡ row rows k
    → row rows j ≡ row rows i

-- each distinct row once, in the order of first places; null counts as a row
pub record AreDistinct (rows distinct : List Row) : Type 0 where
  pub all : (i : ℕ) → i < length rows → Contains distinct (row rows i)
  pub places : List ℕ
  pub many : length places ≡ length distinct
  pub firsts : (k : ℕ) → k < length distinct → row distinct k ≡ row rows (slice_index_or places k 0)
  pub within : (k : ℕ) → k < length distinct → slice_index_or places k 0 < length rows
  pub first : (k i : ℕ) → k < length distinct → i < slice_index_or places k 0 → row rows i
      ≡ row distinct k → ⊥
  pub rising : (j k : ℕ) → j < k → k < length distinct
      → slice_index_or places j 0 < slice_index_or places k 0

-- n is the number of distinct rows
abbrev pub CountsDistinct : List Row → ℕ → Type 0
CountsDistinct rows n = (distinct : List Row) → AreDistinct rows distinct → n ≡ length distinct

-- n is the number of distinct rows that are not null
abbrev pub CountsPresent : List Row → ℕ → Type 0
CountsPresent rows n = (distinct : List Row) → AreDistinct rows distinct → n
    ≡ count_by (λ r. not (is_null r)) distinct

-- the rows of several arrays, one after another; `rows` gives those of each
abbrev pub rows_of_all : {A : Type 0} → (A → List Row) → List (Bor A) → List Row
rows_of_all rows [] = []
rows_of_all rows (array ∷ more) = rows array.now ++ rows_of_all rows more
