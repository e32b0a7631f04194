-- The rows of two tables that are partners. A table is here the list of its rows' keys, each a list
-- of bytes.
--
-- Of the left keys "a", "b", "a" and the right keys "a", "a", "a", row 0 of the left is the partner
-- of row 0 of the right and row 2 of row 1. Row 1 of the left and row 2 of the right have none.
use Rattle.std.specs.Prelude.{◌≡◌, ◌<◌, ℕ, suc, Bool, true, false, List, [], ◌∷◌, Option, Some}
use Rattle.std.specs.Prelude.{None, get_or, length, take}
use Rattle.std.specs.Str.{bytes_eq}

-- the keys of a table's rows
abbrev pub Keys : Type 0
Keys = List (List ℕ)

-- the key of row i
abbrev pub key_at : Keys → ℕ → List ℕ
key_at keys i = get_or keys i []

-- n, or n + 1 if the truth value is true
abbrev pub one_more : Bool → ℕ → ℕ
one_more true n = suc n
one_more false n = n

-- the number of rows that have the key k
unfoldable pub count_of : List ℕ → Keys → ℕ
count_of k [] = 0
count_of k (x ∷ xs) = one_more (bytes_eq x k) (count_of k xs)

-- the number of rows before row i that have its key
abbrev pub number_of : Keys → ℕ → ℕ
number_of keys i = count_of (key_at keys i) (take i keys)

-- row j has the key k
abbrev pub HasKey : Keys → List ℕ → ℕ → Type 0
HasKey keys k j = (j < length keys) × (key_at keys j ≡ k)

-- row i of the left table and row j of the right one are partners
pub record ArePartners (left right : Keys) (i j : ℕ) : Type 0 where
  pub left_row : i < length left
  pub right_row : j < length right
  pub one_key : key_at left i ≡ key_at right j
  pub one_number : number_of left i ≡ number_of right j

-- j is the partner of left row i, or there is none
abbrev pub IsPartner : Keys → Keys → ℕ → Option ℕ → Type 0
IsPartner left right i None = (j : ℕ) → ¬ (ArePartners left right i j)
IsPartner left right i (Some j) = ArePartners left right i j
