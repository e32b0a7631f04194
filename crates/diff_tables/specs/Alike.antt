-- Strings that are stored alike: with the same lengths, and with the same bytes one after another.
--
-- The strings "ab", "c" and the strings "a", "bc" have the same bytes, but not the same lengths.
use Rattle.std.specs.List.{Contains, flat_map}
use Rattle.std.specs.Prelude.{◌≡◌, ◌<◌, ◌≤◌, ◌+◌, ◌-◌, ◌*◌, ◌⊎◌, ℕ, suc, Bool, true, false, List}
use Rattle.std.specs.Prelude.{[], length, get_or, slice_index}
use Rattle.polars_arrays_flat.specs.Validity.{window}

-- the bytes of strings, one string's after another's
abbrev pub all_bytes : List (List ℕ) → List ℕ
all_bytes strings = flat_map (λ s. s) strings

-- each number names a row of w strings
abbrev pub NameRowsOf : ℕ → List (List ℕ) → List ℕ → Type 0
NameRowsOf w strings rows = (p : ℕ) → p < length rows → w * slice_index rows p + w ≤ length strings

-- the two rows of w strings that pair p names have the same strings
abbrev pub AreSameCells : ℕ → List (List ℕ) → List (List ℕ) → List ℕ → List ℕ → ℕ → Type 0
AreSameCells w left right left_rows right_rows p = window (w * slice_index left_rows p) w left
    ≡ window (w * slice_index right_rows p) w right

-- n strings from string `at` on have the same lengths as n others from string `from` on, place by
-- place
abbrev pub AreAsLong : ℕ → ℕ → List (List ℕ) → ℕ → List (List ℕ) → Type 0
AreAsLong n at left from right = (c : ℕ) → c < n → length (get_or left (at + c) [])
    ≡ length (get_or right (from + c) [])

-- for each pair from `start` up to `end` there is a flag, and where it is set the strings of the
-- two rows have the same lengths
pub record TellLengths (w : ℕ) (left right : List (List ℕ)) (left_rows right_rows : List ℕ)
    (start end : ℕ) (flags : List Bool) : Type 0 where
  pub one_each : length flags ≡ end - start
  pub lengths : (k : ℕ) → k < length flags → get_or flags k false ≡ true
      → AreAsLong w (w * slice_index left_rows (start + k)) left
      (w * slice_index right_rows (start + k)) right

-- the two rows that pair p names are the same
abbrev pub AreSameRows : List (List (List ℕ)) → List (List (List ℕ)) → List ℕ → List ℕ → ℕ → Type 0
AreSameRows left right left_rows right_rows p = get_or left (slice_index left_rows p) []
    ≡ get_or right (slice_index right_rows p) []

-- each number is below n
abbrev pub ArePlaces : ℕ → List ℕ → Type 0
ArePlaces n places = (k : ℕ) → k < length places → slice_index places k < n

-- numbers below n are listed in rising order, and for each of the others P holds
pub record ListsAllBut (P : ℕ → Type 0) (n : ℕ) (places : List ℕ) : Type 0 where
  pub below : ArePlaces n places
  pub in_order : (k : ℕ) → suc k < length places → slice_index places k < slice_index places (suc k)
  pub others : (p : ℕ) → p < n → Contains places p ⊎ P p
