-- The cells of a column that have a value.
--
-- The cells are 7, NA, an empty one and 9, and NA stands for no value. Then 7 and 9 have a value,
-- one cell is null, and one is missing.
use Rattle.std.specs.List.{count_by, filter}
use Rattle.std.specs.Prelude.{◌≡◌, ℕ, ◌==◌, Bool, false, not, ◌&&◌, List, [], length, map, get_or}
use Rattle.std.specs.Prelude.{Option, None, Some}
use Rattle.std.specs.Str.{bytes_eq}
use Rattle.polars_arrays_bytes.specs.OffsetStrings.{offset_strings}
use Rattle.diff_tables.specs.Strings.{AreStrings}
use Rattle.schema_columns.specs.declared.present.Gathered.{Gathered}
use Rattle.schema_columns.specs.declared.present.Present.{Present}

-- the cells of a column
abbrev pub cells_of : ℕ → List (List (List ℕ)) → List (List ℕ)
cells_of column rows = map (λ row. get_or row column []) rows

-- a cell is the word that stands for no value, where there is one
abbrev pub is_null : Option (List ℕ) → List ℕ → Bool
is_null (Some word) cell = bytes_eq word cell
is_null None cell = false

-- a cell is empty, and not null
abbrev pub is_missing : Option (List ℕ) → List ℕ → Bool
is_missing null cell = not (is_null null cell) && length cell == 0

-- a cell is neither null nor missing
abbrev pub is_present : Option (List ℕ) → List ℕ → Bool
is_present null cell = not (is_null null cell) && not (length cell == 0)

-- the cells that have a value
abbrev pub present : Option (List ℕ) → List (List ℕ) → List (List ℕ)
present null cells = filter (is_present null) cells

-- these cells were gathered
pub record Gathers (null : Option (List ℕ)) (cells : List (List ℕ)) (g : Gathered) : Type 0 where
  pub strings : AreStrings g.cells (present null cells)
  pub nulls : g.nulls ≡ count_by (is_null null) cells
  pub missing : g.missing ≡ count_by (is_missing null) cells

-- the cells of a column that have a value, and the numbers of null and of missing cells
pub record IsPresentOf (null : Option (List ℕ)) (column : List (List ℕ)) (p : Present) :
    Type 0 where
  pub cells : offset_strings (λ x. x) p.cells ≡ present null column
  pub plain : p.cells.validity ≡ None
  pub nulls : p.nulls ≡ count_by (is_null null) column
  pub missing : p.missing ≡ count_by (is_missing null) column
