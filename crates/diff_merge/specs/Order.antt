-- The order of keys.
--
-- In the key columns 0 and 1 the cells "a", "c" come before "ab", "b", since "a" comes before "ab";
-- and "a", "b" before "a", "c".
use Rattle.std.specs.Cmp.Lexicographic.{slice_cmp}
use Rattle.std.specs.Ordering.{is_lt, nat_cmp, ordering_then}
use Rattle.std.specs.Prelude.{◌≡◌, ◌⊎◌, ℕ, Bool, true, List, [], ◌∷◌, get_or}
use Rattle.std.specs.declared.cmp.Ordering.{Ordering}
use Rattle.std.specs.declared.cmp.Ordering.TheVariants.{Equal}
use Rattle.diff_tables.specs.Keys.{row_key}

-- a key is less than another, byte by byte
abbrev pub key_less : List ℕ → List ℕ → Bool
key_less a b = is_lt (slice_cmp nat_cmp a b)

-- of two keys one is less, or they are the same
abbrev pub TellsKeys : Type 0
TellsKeys = (a b : List ℕ) → (key_less a b ≡ true) ⊎ ((a ≡ b) ⊎ (key_less b a ≡ true))

-- two rows are compared by their cells in the key columns, one column after another, each cell byte
-- by byte
abbrev pub cells_cmp : List ℕ → List (List ℕ) → List (List ℕ) → Ordering
cells_cmp [] a b = Equal
cells_cmp (c ∷ columns) a b =
    ordering_then (slice_cmp nat_cmp (get_or a c []) (get_or b c [])) (cells_cmp columns a b)

-- the order of keys is that of the rows' cells
abbrev pub OrdersByCells : Type 0
OrdersByCells = (columns : List ℕ) (a b : List (List ℕ))
    → key_less (row_key columns a) (row_key columns b) ≡ is_lt (cells_cmp columns a b)
