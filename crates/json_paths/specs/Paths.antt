-- Paths into JSON values, and their texts.
--
-- In {"items": [7, {"price": 9.5}], "a.b": 1} the path items[1].price leads to 9.5, and ."a.b" to
-- 1. The path items[2] leads nowhere.
use Rattle.std.specs.Prelude.{ℕ, List, [], ◌∷◌, Option, Some, option_and_then}
use Rattle.json.specs.Json.{Json}
use Rattle.json.specs.Find.{get, at}

-- a step into a value: to the member of a name, or to the item at a place, the first being 0
pub data Step : Type 0 where
  name : List ℕ → Step
  place : ℕ → Step

-- the steps from a value to a part of it
abbrev pub Path : Type 0
Path = List Step

-- the part one step further in
abbrev pub step_into : Step → Json → Option Json
step_into (name k) j = get k j
step_into (place i) j = at i j

-- the part that a path leads to, where there is one
abbrev pub part_at : Path → Json → Option Json
part_at [] j = Some j
part_at (s ∷ path) j = option_and_then (part_at path) (step_into s j)
