-- Two tables, compared by key.
--
-- By column 0 the rows "a" "1" and "b" "2" on the left and "b" "3" and "c" "4" on the right have
-- one pair of partners, left row 1 and right row 0, which differ; left row 0 is removed, and right
-- row 1 added.
use Rattle.std.specs.Prelude.{◌≡◌, ◌<◌, ℕ, List, [], length, get_or, slice_index}
use Rattle.diff_keys.specs.Matching.{IsMatching}
use Rattle.diff_keys.specs.Rising.{ListsRising}
use Rattle.diff_tables.specs.Keys.{row_keys}
use Rattle.diff_tables.specs.declared.compare.Comparison.{Comparison}

-- at place k of two lists of row numbers the rows that they name differ
abbrev pub IsDifferent : List (List (List ℕ)) → List (List (List ℕ)) → List ℕ → List ℕ → ℕ → Type 0
IsDifferent left right left_rows right_rows k =
    ¬ (get_or left (slice_index left_rows k) [] ≡ get_or right (slice_index right_rows k) [])

-- two lists of row numbers name rows of the two tables, place by place
pub record ArePairs (left right : List (List (List ℕ))) (left_rows right_rows : List ℕ) :
    Type 0 where
  pub one_length : length left_rows ≡ length right_rows
  pub left_within : (k : ℕ) → k < length left_rows → slice_index left_rows k < length left
  pub right_within : (k : ℕ) → k < length right_rows → slice_index right_rows k < length right

-- rows with the same cells in the key columns are matched, the first with the first; the partners
-- that differ are listed
pub record IsComparison (columns : List ℕ) (left right : List (List (List ℕ))) (c : Comparison) :
    Type 0 where
  pub matching : IsMatching (row_keys columns left) (row_keys columns right) c.matching
  pub changed :
      ListsRising (IsDifferent left right c.matching.left_rows.items c.matching.right_rows.items)
      (length c.matching.left_rows.items) c.changed.items
