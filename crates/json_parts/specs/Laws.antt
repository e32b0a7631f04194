-- Laws of parts.
use Rattle.std.specs.Prelude.{ℕ, All, List}
use Rattle.json.specs.Json.{Json}
use Rattle.json.specs.Tree.{HasNumbers}
use Rattle.json_parts.specs.Parts.{parts_below}

-- if the texts of a value's numbers are numbers, those of its parts are
abbrev pub PartsHaveNumbers : Type 0
PartsHaveNumbers = (path : List ℕ) (j : Json) → HasNumbers j
    → All (λ p. HasNumbers p.value) (parts_below path j)
