-- The value of an array at one place, as a tree.
use Rattle.std.specs.Prelude.{ℕ, ℤ, Bool, List, [], ◌∷◌}

mutual
  -- null, a number, a truth value, bytes (a text is its UTF-8), a list, a struct, or an entry
  pub data Row : Type 0 where
    Null : Row
    Int : ℤ → Row
    Truth : Bool → Row
    Bytes : List ℕ → Row
    Rows : RowList → Row
    Fields : RowList → Row
    Entry : Row → Row

  -- a list of rows
  pub data RowList : Type 0 where
    no_rows : RowList
    more_rows : Row → RowList → RowList

-- a list of rows as a row holds it
abbrev pub row_list : List Row → RowList
row_list [] = no_rows
row_list (row ∷ rows) = more_rows row (row_list rows)
