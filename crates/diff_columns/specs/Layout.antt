-- The columns of two tables that are compared.
--
-- With the key "id" the left columns "id", "city", "day" and the right columns "day", "id", "age"
-- have two names in common: the left columns 0, 2 are compared with the right columns 1, 0, the key
-- stands at place 0 of these, and left column 1 and right column 2 are alone.
use Rattle.std.specs.Prelude.{◌≡◌, ◌<◌, ℕ, List, Contains, length, slice_index}
use Rattle.diff_keys.specs.Rising.{ListsRising}
use Rattle.diff_columns.specs.Choice.{IsChosen}
use Rattle.diff_columns.specs.Names.{Names, IsNamed, name_at, names_of}
use Rattle.diff_columns.specs.declared.choice.Choice.{Choice}
use Rattle.diff_columns.specs.declared.layout.Layout.{Layout}

-- left column i is chosen, and the right table has its name
abbrev pub IsCompared : Choice → Names → Names → ℕ → Type 0
IsCompared choice left right i = IsChosen choice (name_at left i) × Contains right (name_at left i)

-- column i is chosen, and the other table does not have its name
abbrev pub IsAlone : Choice → Names → Names → ℕ → Type 0
IsAlone choice names others i = IsChosen choice (name_at names i)
    × (¬ (Contains others (name_at names i)))

-- place by place, two lists of columns have the same names
pub record HaveSameNames (left right : Names) (left_columns right_columns : List ℕ) : Type 0 where
  pub one_length : length left_columns ≡ length right_columns
  pub same : (p : ℕ) → p < length left_columns
      → IsNamed right (name_at left (slice_index left_columns p)) (slice_index right_columns p)

-- the column at place p of a list has this name
abbrev pub IsPlace : Names → List ℕ → List ℕ → ℕ → Type 0
IsPlace names columns name p = (p < length columns) × (name_at names (slice_index columns p) ≡ name)

-- for each key the place of its column in a list
pub record AreKeyPlaces (names : Names) (columns : List ℕ) (keys : Names) (places : List ℕ) :
    Type 0 where
  pub one_each : length places ≡ length keys
  pub place : (k : ℕ) → k < length places
      → IsPlace names columns (name_at keys k) (slice_index places k)

-- the chosen columns: those of a name that both tables have, with the places of the keys, and those
-- that only one table has
pub record IsLayout (left right : Names) (choice : Choice) (layout : Layout) : Type 0 where
  pub compared : ListsRising (IsCompared choice left right) (length left) layout.left.items
  pub same_names : HaveSameNames left right layout.left.items layout.right.items
  pub key_places : AreKeyPlaces left layout.left.items (names_of choice.keys.now) layout.keys.items
  pub left_alone : ListsRising (IsAlone choice left right) (length left) layout.left_alone.items
  pub right_alone : ListsRising (IsAlone choice right left) (length right) layout.right_alone.items
