-- The texts that rows are compared by.
--
-- Where numbers count in the second column alone, the row "7.0" "12.00" is compared by "7.0" "12".
use Rattle.std.specs.List.{range_with_len}
use Rattle.std.specs.Prelude.{◌≡◌, ℕ, Bool, false, List, [], length, get_or, map}
use Rattle.diff_numbers.specs.Cells.{comparable}
use Rattle.diff_tables.specs.Tables.{TableRows}

-- the text that the cell of a row in a column is compared by
abbrev pub comparable_at : List Bool → List (List ℕ) → ℕ → List ℕ
comparable_at numeric cells column =
    comparable (get_or numeric column false) (get_or cells column [])

-- the row that a row is compared by, with a cell for each column
abbrev pub comparable_row : List Bool → List (List ℕ) → List (List ℕ)
comparable_row numeric cells = map (comparable_at numeric cells) (range_with_len 0 (length numeric))

-- the rows that rows are compared by
abbrev pub comparable_rows : List Bool → List (List (List ℕ)) → List (List (List ℕ))
comparable_rows numeric rows = map (comparable_row numeric) rows

-- a table is the one that another is compared by
pub record IsComparableTable (numeric : List Bool) (table made : TableRows) : Type 0 where
  pub width : made.width ≡ table.width
  pub rows : made.rows ≡ comparable_rows numeric table.rows
