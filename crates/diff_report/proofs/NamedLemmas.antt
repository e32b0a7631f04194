-- The row numbers of a comparison name rows.
use Rattle.std.proofs.Common.{◌≡◌, ◌<◌, ◌≤◌, ◌∙◌, ℕ, zero, suc, List, Option, None, Some, length, arith, subst, refl}
use Rattle.std.proofs.lemmas.List.{length-map}
use Rattle.std.proofs.lemmas.List.Elements.{All-from_get_or}
use Rattle.std.specs.Prelude.{All, IfSome, slice_index}
use Rattle.diff_keys.specs.Matching.{IsAdded, IsRemoved}
use Rattle.diff_keys.specs.Rising.{ListsRising}
use Rattle.diff_keys.specs.RisingLaws.{listed_below}
use Rattle.diff_tables.specs.Comparison.{ArePairs, IsComparison, IsDifferent}
use Rattle.diff_tables.specs.Keys.{row_key, row_keys}
use Rattle.diff_tables.specs.declared.compare.Comparison.{Comparison}
use Rattle.diff_tables.proofs.CompareLemmas.{pairs_within}
use Rattle.diff_report.specs.Sides.{AreAsLarge, AreSides, NamesRows, compared_left, compared_right, left_rows_by, right_rows_by}
use Rattle.diff_report.specs.declared.sides.Comparables.{Comparables}
use Rattle.diff_report.specs.declared.sides.Sides.{Sides}

-- a rising list has at each place a number that is not below the place
rising_at : (rows : List ℕ) → ((k : ℕ) → suc k < length rows → slice_index rows k < slice_index rows (suc k)) → (k : ℕ) → k < length rows → k ≤ slice_index rows k
rising_at rows rising zero within = omega arith
rising_at rows rising (suc k) within =
    let before : k ≤ slice_index rows k = rising_at rows rising k (omega (arith, within)) in
    let step : slice_index rows k < slice_index rows (suc k) = rising k within in
    omega (arith, before, step)

-- rising numbers below n are n at most
pub listed_few : (P : ℕ → Type 0) (n : ℕ) (rows : List ℕ) → ListsRising P n rows → length rows ≤ n
listed_few P n rows h = few (length rows) refl
  where
    few : (m : ℕ) → length rows ≡ m → m ≤ n
    few zero e = omega arith
    few (suc m) e =
        let last : m ≤ slice_index rows m = rising_at rows h.in_order m (omega (arith, e)) in
        let below : slice_index rows m < n = listed_below P n rows h m (omega (arith, e)) in
        omega (arith, last, below)

pub listed_all : (P : ℕ → Type 0) (n : ℕ) (rows : List ℕ) → ListsRising P n rows → All (λ i. i < n) rows
listed_all P n rows h = All-from_get_or (λ i. i < n) rows 0 (listed_below P n rows h)

-- the rows that are compared are as many as those of the tables
pub left_count : (s : Sides) → AreSides s → length (compared_left s) ≡ length s.left.table.rows
left_count s h = by s.comparables h.comparables
  where
    by : (o : Option Comparables) → IfSome o (AreAsLarge s.left.table s.right.table) → length (left_rows_by s.left.table.rows o) ≡ length s.left.table.rows
    by None large = refl
    by (Some tables) large = large.left.count

pub right_count : (s : Sides) → AreSides s → length (compared_right s) ≡ length s.right.table.rows
right_count s h = by s.comparables h.comparables
  where
    by : (o : Option Comparables) → IfSome o (AreAsLarge s.left.table s.right.table) → length (right_rows_by s.right.table.rows o) ≡ length s.right.table.rows
    by None large = refl
    by (Some tables) large = large.right.count

-- a comparison of the rows that are compared names rows of the tables
pub rows_named : (s : Sides) (c : Comparison) → AreSides s → IsComparison s.keys.items (compared_left s) (compared_right s) c → NamesRows s c
rows_named s c sides h = record {
  pairs = record {
    one_length = pairs.one_length;
    left_within = λ k within. omega (arith, pairs.left_within k within, left_count s sides);
    right_within = λ k within. omega (arith, pairs.right_within k within, right_count s sides);
  };
  changed = listed_all (IsDifferent (compared_left s) (compared_right s) c.matching.left_rows.items c.matching.right_rows.items) (length c.matching.left_rows.items) c.changed.items h.changed;
  few = listed_few (IsDifferent (compared_left s) (compared_right s) c.matching.left_rows.items c.matching.right_rows.items) (length c.matching.left_rows.items) c.changed.items h.changed;
  removed = subst (λ n. All (λ i. i < n) c.matching.removed.items) (length-map (compared_left s) (row_key s.keys.items) ∙ left_count s sides)
      (listed_all (IsRemoved (row_keys s.keys.items (compared_left s)) (row_keys s.keys.items (compared_right s))) (length (row_keys s.keys.items (compared_left s))) c.matching.removed.items h.matching.removed);
  added = subst (λ n. All (λ j. j < n) c.matching.added.items) (length-map (compared_right s) (row_key s.keys.items) ∙ right_count s sides)
      (listed_all (IsAdded (row_keys s.keys.items (compared_left s)) (row_keys s.keys.items (compared_right s))) (length (row_keys s.keys.items (compared_right s))) c.matching.added.items h.matching.added);
}
  where
    pairs : ArePairs (compared_left s) (compared_right s) c.matching.left_rows.items c.matching.right_rows.items
    pairs = pairs_within s.keys.items (compared_left s) (compared_right s) c.matching h.matching
