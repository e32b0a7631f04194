-- Tables of names.
use Rattle.std.specs.Prelude.{ℕ, if◌then◌else◌, List, [], ◌∷◌, Option, None, Some}
use Rattle.std.specs.Str.{bytes_eq}

-- the meaning of a name by the first row of the table that has it, if there is one
abbrev pub find : {A : Type 0} → List (List ℕ × A) → List ℕ → Option A
find [] name = None
find (line ∷ more) name = if bytes_eq name line.0 then Some line.1 else find more name
