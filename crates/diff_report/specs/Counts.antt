-- The number of pairs that differ in each column.
--
-- Where of three changed pairs two differ in column 1, and all in column 2, the counts are 0, 2, 3.
use Rattle.std.specs.List.{count_by, range_with_len}
use Rattle.std.specs.Prelude.{◌≡◌, ◌<◌, ◌+◌, ℕ, Bool, if◌then◌else◌, List, length, map, slice_index}
use Rattle.diff_keys.specs.declared.matching.Matching.{Matching}
use Rattle.diff_report.specs.Pairs.{is_apart}
use Rattle.diff_report.specs.Sides.{naming_of}
use Rattle.diff_report.specs.declared.sides.Sides.{Sides}

-- the number of pairs at these places that differ in a column
abbrev pub count_at : Sides → Matching → List ℕ → ℕ → ℕ
count_at s m places column = count_by
    (λ k. is_apart s (slice_index m.left_rows.items k) (slice_index m.right_rows.items k) column)
    places

-- for each column the number of pairs at these places that differ in it
abbrev pub column_counts : Sides → Matching → List ℕ → List ℕ
column_counts s m places = map (count_at s m places) (range_with_len 0 (length (naming_of s).names))

-- each number is 1 more where p holds of its place, and otherwise the same
pub record AddsWhere (p : ℕ → Bool) (old new : List ℕ) : Type 0 where
  pub as_many : length new ≡ length old
  pub each : (k : ℕ) → k < length old → slice_index new k
      ≡ slice_index old k + (if p k then 1 else 0)
