-- The columns that are chosen.
--
-- With the key "id", and "id", "note" ignored, "id" and "city" are chosen, and "note" is not. Where
-- only "note" is to be compared, "id" alone is chosen.
use Rattle.std.specs.Prelude.{◌⊎◌, ℕ, List, Contains, IfSome}
use Rattle.diff_columns.specs.declared.choice.Choice.{Choice}
use Rattle.diff_columns.specs.Names.{names_of}

-- the name is among those to compare, where these are given, and is not ignored
abbrev pub IsWanted : Choice → List ℕ → Type 0
IsWanted choice name = IfSome choice.only (λ only. Contains (names_of only.now) name)
    × (¬ (Contains (names_of choice.ignored.now) name))

-- a column of this name is chosen: it is a key, or it is wanted
abbrev pub IsChosen : Choice → List ℕ → Type 0
IsChosen choice name = Contains (names_of choice.keys.now) name ⊎ IsWanted choice name
