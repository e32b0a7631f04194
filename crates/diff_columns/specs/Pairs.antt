-- Columns as the search lists them.
use Rattle.std.specs.Prelude.{ℕ, List}
use Rattle.diff_keys.specs.Rising.{ListsRising}
use Rattle.diff_columns.specs.Choice.{IsChosen}
use Rattle.diff_columns.specs.Layout.{HaveSameNames, IsCompared, IsPlace}
use Rattle.diff_columns.specs.Names.{Names, IsNamed, name_at}
use Rattle.diff_columns.specs.declared.choice.Choice.{Choice}

-- left column i is compared with right column j
abbrev pub IsPair : Choice → Names → Names → ℕ → ℕ → Type 0
IsPair choice left right i j = IsChosen choice (name_at left i) × IsNamed right (name_at left i) j

-- those of the first n left columns that are compared are listed, each with the right column of its
-- name
pub record ArePairs (choice : Choice) (left right : Names) (n : ℕ)
    (left_columns right_columns : List ℕ) : Type 0 where
  pub compared : ListsRising (IsCompared choice left right) n left_columns
  pub same_names : HaveSameNames left right left_columns right_columns

-- a list has a column of this name
abbrev pub HasPlace : Names → List ℕ → List ℕ → Type 0
HasPlace names columns name = (p : ℕ) × IsPlace names columns name p
