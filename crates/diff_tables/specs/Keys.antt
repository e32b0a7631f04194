-- The keys of a table's rows.
--
-- In the key columns 0 and 2 the rows "a", "x", "bc" and "ab", "x", "c" have the keys "a" 0 0 "bc"
-- 0 0 and "ab" 0 0 "c" 0 0, which differ.
use Rattle.std.specs.Prelude.{ℕ, zero, suc, List, [], ◌∷◌, ◌++◌, get_or, map}

-- a byte, and a 1 after a zero
abbrev pub marked : ℕ → List ℕ
marked zero = 0 ∷ 1 ∷ []
marked (suc b) = suc b ∷ []

-- a byte string that shows where it ends: a zero is 0 1, and the end is 0 0
unfoldable pub escaped : List ℕ → List ℕ
escaped [] = 0 ∷ 0 ∷ []
escaped (b ∷ bs) = marked b ++ escaped bs

-- the key of a row: its cells in the key columns, each with its end
unfoldable pub row_key : List ℕ → List (List ℕ) → List ℕ
row_key [] cells = []
row_key (c ∷ columns) cells = escaped (get_or cells c []) ++ row_key columns cells

-- the keys of rows
abbrev pub row_keys : List ℕ → List (List (List ℕ)) → List (List ℕ)
row_keys columns rows = map (row_key columns) rows

-- the cells of a row in some columns
abbrev pub cells_at : List ℕ → List (List ℕ) → List (List ℕ)
cells_at columns cells = map (λ c. get_or cells c []) columns
