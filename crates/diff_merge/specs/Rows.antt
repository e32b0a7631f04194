-- Rows that a merge reads.
--
-- The row "8" "2" at line 3 of the text "id,n", "7,1", "8,2" is the second one.
use Rattle.std.specs.Prelude.{◌≡◌, ℕ, suc, List, length, map}
use Rattle.csv.specs.Records.{fields_of}
use Rattle.diff_merge.specs.declared.row.Row.{Row}
use Rattle.diff_tables.specs.Keys.{cells_at, row_key}

-- a row's cells in the columns that are compared, and the line at which it begins
pub record Seen : Type 0 where
  pub cells : List (List ℕ)
  pub line : ℕ

-- the cells of a row
abbrev pub cells_of : Row → List (List ℕ)
cells_of r = cells_at r.columns.now (fields_of r.record.now)

-- the row as a merge compares it: its cells and its line
abbrev pub seen_of : Row → Seen
seen_of r = record { cells = cells_of r; line = r.line }

-- the cells of some rows
abbrev pub all_cells : List Seen → List (List (List ℕ))
all_cells rows = map (λ (r : Seen). r.cells) rows

-- the keys of some rows
abbrev pub keys_of : List ℕ → List Seen → List (List ℕ)
keys_of keys rows = map (λ (r : Seen). row_key keys r.cells) rows

-- a row is the one after these
abbrev pub IsNext : List Seen → Row → Type 0
IsNext rows r = r.number ≡ suc (length rows)
