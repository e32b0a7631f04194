-- The names of a table's columns, each a list of bytes.
--
-- Of the names "id", "city", "id" that of column 2 comes twice. To the names "id", "city" the keys
-- "id", "day" have one that is missing, key 1. Of the names "day", "age" the second one is unknown
-- to tables with the columns "id", "city" and "id", "day".
use Rattle.std.specs.Borrow.{Bor}
use Rattle.std.specs.Prelude.{◌≡◌, ◌≢◌, ◌<◌, ◌⊎◌, ℕ, List, [], All, AllPairs, Contains, get_or}
use Rattle.std.specs.Prelude.{length, map}

-- the names of columns, one after another
abbrev pub Names : Type 0
Names = List (List ℕ)

-- the name of column c
abbrev pub name_at : Names → ℕ → List ℕ
name_at names c = get_or names c []

-- the names that are lent
abbrev pub names_of : List (Bor (List ℕ)) → Names
names_of lent = map (λ name. name.now) lent

-- column c has this name
abbrev pub IsNamed : Names → List ℕ → ℕ → Type 0
IsNamed names name c = (c < length names) × (name_at names c ≡ name)

-- column c has the name of an earlier one
abbrev pub IsRepeated : Names → ℕ → Type 0
IsRepeated names c = (c < length names) × ((d : ℕ) × (d < c) × (name_at names d ≡ name_at names c))

-- no name comes twice
abbrev pub AreDistinct : Names → Type 0
AreDistinct names = AllPairs (λ x y. x ≢ y) names

-- key k is the name of no column
abbrev pub IsMissing : Names → Names → ℕ → Type 0
IsMissing names keys k = (k < length keys) × (¬ (Contains names (name_at keys k)))

-- a column of one of two tables has this name
abbrev pub IsKnown : Names → Names → List ℕ → Type 0
IsKnown left right name = Contains left name ⊎ Contains right name

-- name k of some is that of no column of either table
abbrev pub IsUnknown : Names → Names → Names → ℕ → Type 0
IsUnknown left right names k = (k < length names) × (¬ (IsKnown left right (name_at names k)))

-- no name comes twice in a table, and each key is a name in both
pub record AreMatchable (left right keys : Names) : Type 0 where
  pub left_distinct : AreDistinct left
  pub left_keys : All (Contains left) keys
  pub right_distinct : AreDistinct right
  pub right_keys : All (Contains right) keys
