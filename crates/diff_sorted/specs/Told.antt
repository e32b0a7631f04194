-- What a report was told of two sorted texts.
--
-- After the left rows "7" "1" and "8" "2" and the right row "7" "3" it has the line of the pair 7
-- and that of the removed row 8, and counts 1 of each.
use Rattle.std.specs.Prelude.{◌≡◌, ◌+◌, ◌<◌, ◌^◌, ℕ, suc, List, [], length, map, get_or}
use Rattle.std.specs.Prelude.{All, slice_index}
use Rattle.diff_keys.specs.Rising.{ListsRising}
use Rattle.diff_keys.specs.declared.matching.Matching.{Matching}
use Rattle.diff_merge.specs.Rows.{Seen, all_cells, cells_of}
use Rattle.diff_merge.specs.declared.row.Row.{Row}
use Rattle.diff_report.specs.Counts.{column_counts}
use Rattle.diff_report.specs.Sides.{naming_of}
use Rattle.diff_report.specs.declared.lines.Alone.TheVariants.{Removed, Added}
use Rattle.diff_report.specs.declared.sides.Side.{Side}
use Rattle.diff_report.specs.declared.sides.Sides.{Sides}
use Rattle.diff_run.specs.Lines.{pair_at, row_alone}
use Rattle.diff_single.specs.Frame.{IsFrameOf, naming_by}
use Rattle.diff_single.specs.Rows.{HasRowAt}
use Rattle.diff_tables.specs.Comparison.{ArePairs, IsDifferent}
use Rattle.diff_sorted.specs.Lines.{HasLines}
use Rattle.diff_sorted.specs.declared.report.SortedReport.{SortedReport}

-- a row of no cells
abbrev pub no_row : Seen
no_row = record { cells = []; line = 0 }

-- row i of some rows
abbrev pub seen_at : List Seen → ℕ → Seen
seen_at rows i = get_or rows i no_row

-- these are the first rows of a side, numbered from 1 on
abbrev pub HasRows : Side → List Seen → Type 0
HasRows side rows = (i : ℕ) → i < length rows
    → HasRowAt side i (seen_at rows i).cells (suc i) (seen_at rows i).line

-- the pairs of a matching are the first ones of another
pub record Begins (m whole : Matching) : Type 0 where
  pub left : (k : ℕ) → k < length m.left_rows.items
      → slice_index whole.left_rows.items k ≡ slice_index m.left_rows.items k
  pub right : (k : ℕ) → k < length m.right_rows.items
      → slice_index whole.right_rows.items k ≡ slice_index m.right_rows.items k

-- of two tables a report has the first lines of each kind, how many there are, and the counts of
-- the columns, where the pairs at these places are changed
pub record Tells (r : SortedReport) (s : Sides) (m whole : Matching) (changed : List ℕ) :
    Type 0 where
  pub changed_lines : HasLines r.limit (map (pair_at r.frame.format s whole) changed) r.changed
  pub removed_lines : HasLines r.limit
      (map (row_alone r.frame.format Removed (naming_of s) s.left) m.removed.items) r.removed
  pub added_lines : HasLines r.limit
      (map (row_alone r.frame.format Added (naming_of s) s.right) m.added.items) r.added
  pub counts : r.counts.items ≡ column_counts s whole changed

-- a report was told of these rows of two texts, which are matched so: it has what any two tables
-- with these rows ask for
pub record IsTold (r : SortedReport) (left_rows right_rows : List Seen) (m : Matching) :
    Type 0 where
  pub changed : List ℕ
  pub pairs : ArePairs (all_cells left_rows) (all_cells right_rows) m.left_rows.items
      m.right_rows.items
  pub listed : ListsRising
      (IsDifferent (all_cells left_rows) (all_cells right_rows) m.left_rows.items
      m.right_rows.items) (length m.left_rows.items) changed
  pub same : length m.left_rows.items ≡ r.same + length changed
  pub left_few : length left_rows < 2 ^ 62
  pub right_few : length right_rows < 2 ^ 62
  pub told : (s : Sides) (whole : Matching) → IsFrameOf r.frame s → HasRows s.left left_rows
      → HasRows s.right right_rows → Begins m whole → Tells r s m whole changed

-- a row has the columns of a report, and a number that is not too large
pub record IsFit (r : SortedReport) (row : Row) : Type 0 where
  pub width : length (cells_of row) ≡ length (naming_by r.frame).names
  pub counts : length r.counts.items ≡ length (naming_by r.frame).names
  pub keys : All (λ column. column < length (naming_by r.frame).names) r.frame.keys.now
  pub few : row.number < 2 ^ 62
