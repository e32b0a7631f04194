-- Two tables of the same columns, and row numbers that name their rows.
use Rattle.std.specs.Option.{option_map}
use Rattle.std.specs.Prelude.{◌≡◌, ◌<◌, ◌≤◌, ◌+◌, ℕ, List, [], Option, None, Some, All, IfSome}
use Rattle.std.specs.Prelude.{length, get_or, slice_index}
use Rattle.diff_keys.specs.declared.matching.Matching.{Matching}
use Rattle.diff_tables.specs.Comparison.{ArePairs}
use Rattle.diff_tables.specs.Tables.{TableRows}
use Rattle.diff_tables.specs.declared.compare.Comparison.{Comparison}
use Rattle.polars_arrays_bytes.specs.OffsetStrings.{offset_strings}
use Rattle.diff_report.specs.Naming.{Naming}
use Rattle.diff_report.specs.declared.sides.Comparables.{Comparables}
use Rattle.diff_report.specs.declared.sides.Side.{Side}
use Rattle.diff_report.specs.declared.sides.Sides.{Sides}

-- the naming of the rows and cells of two tables
abbrev pub naming_of : Sides → Naming
naming_of s =
    record {
      names = offset_strings (λ x. x) s.names;
      keys = s.keys.items;
      null = option_map
          (λ v. v.items) s.null;
      colored = s.colored;
    }

-- row i of a table
abbrev pub row_of : Side → ℕ → List (List ℕ)
row_of side i = get_or side.table.rows i []

-- the number of row i among all rows of a file, from 1 on. If some rows are left out, the numbers
-- of the others are listed.
abbrev pub number_in : Option (List ℕ) → ℕ → ℕ
number_in None i = i + 1
number_in (Some numbers) i = slice_index numbers i

abbrev pub number_of : Side → ℕ → ℕ
number_of side i = number_in (option_map (λ v. v.items) side.numbers) i

-- the rows of a table, or those of the table that it is compared by, if there is one
abbrev pub left_rows_by : List (List (List ℕ)) → Option Comparables → List (List (List ℕ))
left_rows_by rows None = rows
left_rows_by rows (Some by) = by.left.rows

abbrev pub right_rows_by : List (List (List ℕ)) → Option Comparables → List (List (List ℕ))
right_rows_by rows None = rows
right_rows_by rows (Some by) = by.right.rows

-- the rows that the left rows are compared by: the left rows, if there are no others
abbrev pub compared_left : Sides → List (List (List ℕ))
compared_left s = left_rows_by s.left.table.rows s.comparables

-- the rows that the right rows are compared by
abbrev pub compared_right : Sides → List (List (List ℕ))
compared_right s = right_rows_by s.right.table.rows s.comparables

-- the left row at place k of the matched rows
abbrev pub left_at : Sides → Matching → ℕ → List (List ℕ)
left_at s m k = row_of s.left (slice_index m.left_rows.items k)

-- the right row at place k of the matched rows, its partner
abbrev pub right_at : Sides → Matching → ℕ → List (List ℕ)
right_at s m k = row_of s.right (slice_index m.right_rows.items k)

-- a table has the named columns, and a line for each row, and a number where there are numbers
pub record IsSide (n : Naming) (side : Side) : Type 0 where
  pub width : side.table.width ≡ length n.names
  pub lines : length side.lines.items ≡ length side.table.rows
  pub numbers : IfSome side.numbers (λ v. length v.items ≡ length side.table.rows)

-- a table can stand for another: it has the same number of columns and of rows
pub record IsAsLarge (table by : TableRows) : Type 0 where
  pub width : by.width ≡ table.width
  pub count : length by.rows ≡ length table.rows

-- the tables that the sides are compared by can stand for theirs
pub record AreAsLarge (left_table right_table : TableRows) (by : Comparables) : Type 0 where
  pub left : IsAsLarge left_table by.left
  pub right : IsAsLarge right_table by.right

-- both tables have the named columns, and the keys are among these
pub record AreSides (s : Sides) : Type 0 where
  pub left : IsSide (naming_of s) s.left
  pub right : IsSide (naming_of s) s.right
  pub comparables : IfSome s.comparables (AreAsLarge s.left.table s.right.table)
  pub keys : All (λ column. column < length (naming_of s).names) s.keys.items

-- the row numbers of a comparison name rows of the tables
pub record NamesRows (s : Sides) (c : Comparison) : Type 0 where
  pub pairs : ArePairs s.left.table.rows s.right.table.rows c.matching.left_rows.items
      c.matching.right_rows.items
  pub changed : All (λ k. k < length c.matching.left_rows.items) c.changed.items
  pub few : length c.changed.items ≤ length c.matching.left_rows.items
  pub removed : All (λ i. i < length s.left.table.rows) c.matching.removed.items
  pub added : All (λ j. j < length s.right.table.rows) c.matching.added.items
