-- Rows of cells, all of one width.
--
-- The cells a, b, c, d, e, f are cut into two rows of three: a b c, and d e f.
use Rattle.std.specs.Prelude.{◌≡◌, ◌*◌, ℕ, zero, suc, Bool, List, [], ◌∷◌, length, take, drop}
use Rattle.diff_pairs.specs.Cells.{AreRows, strings_of}
use Rattle.diff_pairs.specs.declared.rows.LentRows.{LentRows}
use Rattle.diff_tables.specs.declared.table.Table.TheInside.{Inside}

-- a table: how many cells each row has, the rows, and whether the ends of the cells have 64 bits
pub record TableRows : Type 0 where
  pub width : ℕ
  pub rows : List (List (List ℕ))
  pub far : Bool

-- n rows of w cells each, cut off the cells one after another
unfoldable pub cut_rows : ℕ → ℕ → List (List ℕ) → List (List (List ℕ))
cut_rows w zero cells = []
cut_rows w (suc n) cells = take w cells ∷ cut_rows w n (drop w cells)

-- the table that is stored
abbrev pub rows_of : Inside → TableRows
rows_of t = record
    { width = t.width; rows = cut_rows t.width t.count t.cells.strings; far = t.cells.far }

-- the cells are those of the rows and no more
abbrev pub IsTable : Inside → Type 0
IsTable t = length t.cells.strings ≡ t.width * t.count

-- the rows of a table are lent
pub record Lends (t : TableRows) (lent : LentRows) : Type 0 where
  pub whole : AreRows lent
  pub width : lent.width ≡ t.width
  pub rows : t.rows ≡ cut_rows lent.width lent.count (strings_of lent.cells)
