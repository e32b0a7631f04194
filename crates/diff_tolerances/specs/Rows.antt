-- The rows that right rows are compared by.
--
-- With the columns "id", "n" and a tolerance of 0.1 for "n", the right row "a" "7.05" is compared
-- by "a" "7.0" beside its partner "a" "7.0", and as it is beside "a" "8" or without a partner.
use Rattle.std.specs.List.{range_with_len}
use Rattle.std.specs.Prelude.{◌≡◌, ℕ, List, [], Option, None, Some, length, get_or, map, option_map}
use Rattle.diff_columns.specs.Names.{Names}
use Rattle.diff_tables.specs.Keys.{row_keys}
use Rattle.diff_tables.specs.Tables.{TableRows}
use Rattle.diff_tolerances.specs.Cells.{cell_by}
use Rattle.diff_tolerances.specs.Partners.{ArePartnersOf}
use Rattle.diff_tolerances.specs.declared.cells.Tolerance.{Tolerance}

-- the cell in column c that a right row is compared by, beside its partner, if it has one
abbrev pub cell_at : List Tolerance → Names → Option (List (List ℕ)) → List (List ℕ) → ℕ → List ℕ
cell_at tolerances names None right c = get_or right c []
cell_at tolerances names (Some left) right c =
    cell_by tolerances (get_or names c []) (get_or left c []) (get_or right c [])

-- the row that a right row is compared by, with a cell for each column
abbrev pub row_by : List Tolerance → Names → Option (List (List ℕ)) → List (List ℕ)
    → List (List ℕ)
row_by tolerances names left right =
    map (cell_at tolerances names left right) (range_with_len 0 (length names))

-- the row with this number, if there is one
abbrev pub row_at : List (List (List ℕ)) → Option ℕ → Option (List (List ℕ))
row_at rows number = option_map (λ i. get_or rows i []) number

-- the row that right row j is compared by, where these are the partners of the right rows
abbrev pub row_beside : List Tolerance → Names → List (List (List ℕ)) → List (Option ℕ)
    → List (List (List ℕ)) → ℕ → List (List ℕ)
row_beside tolerances names left partners right j =
    row_by tolerances names (row_at left (get_or partners j None)) (get_or right j [])

-- rows are those that right rows are compared by, where rows with the same cells in these columns
-- are partners
pub record AreTolerantRows (tolerances : List Tolerance) (names : Names) (columns : List ℕ)
    (left right made : List (List (List ℕ))) : Type 0 where
  pub partners : List (Option ℕ)
  pub are_partners : ArePartnersOf (row_keys columns left) (row_keys columns right) partners
  pub rows : made
      ≡ map (row_beside tolerances names left partners right) (range_with_len 0 (length right))

-- a table is the one that a right table is compared by
pub record IsTolerantTable (tolerances : List Tolerance) (names : Names) (columns : List ℕ)
    (left right made : TableRows) : Type 0 where
  pub width : made.width ≡ right.width
  pub rows : AreTolerantRows tolerances names columns left.rows right.rows made.rows
