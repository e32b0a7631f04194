-- Rows that are listed as they are found.
use Rattle.std.specs.List.{Contains}
use Rattle.std.specs.Prelude.{◌≡◌, ◌<◌, ◌↔◌, ℕ, suc, Bool, true, false, List, Option, Some, None}
use Rattle.std.specs.Prelude.{length, get_or, slice_index}

-- row i has no partner among those that were found
abbrev pub HasNone : List (Option ℕ) → ℕ → Type 0
HasNone found i = get_or found i None ≡ None

-- number j is not listed
abbrev pub IsOther : List ℕ → ℕ → Type 0
IsOther rows j = ¬ (Contains rows j)

-- those of the first n rows that found a partner are listed in rising order, each with its partner
pub record ListsFound (found : List (Option ℕ)) (n : ℕ) (left_rows right_rows : List ℕ) :
    Type 0 where
  pub one_length : length left_rows ≡ length right_rows
  pub pair : (k : ℕ) → k < length left_rows → (slice_index left_rows k < n)
      × (get_or found (slice_index left_rows k) None ≡ Some (slice_index right_rows k))
  pub each : (i j : ℕ) → i < n → get_or found i None ≡ Some j → (k : ℕ) × (k < length left_rows)
      × (slice_index left_rows k ≡ i) × (slice_index right_rows k ≡ j)
  pub in_order : (k : ℕ) → suc k < length left_rows
      → slice_index left_rows k < slice_index left_rows (suc k)

-- flag j is not set
abbrev pub IsUnset : List Bool → ℕ → Type 0
IsUnset flags j = get_or flags j false ≡ false

-- there are n flags, and those of the listed numbers are set
pub record AreFlags (rows : List ℕ) (n : ℕ) (flags : List Bool) : Type 0 where
  pub count : length flags ≡ n
  pub set : (j : ℕ) → j < n → (get_or flags j false ≡ true) ↔ Contains rows j
