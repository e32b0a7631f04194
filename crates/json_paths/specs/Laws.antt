-- Laws of texts.
use Rattle.std.specs.Prelude.{◌≡◌, ◌≢◌, ◌<◌, ◌^◌, ⊤, ℕ, List, []}
use Rattle.std.specs.List.{AllByRecursion}
use Rattle.json_paths.specs.Paths.{Path, name, place}
use Rattle.json_paths.specs.Patterns.{Pattern, PatternStep, exactly, any_item}
use Rattle.json_paths.specs.Texts.{IsPathText, IsPatternText}

-- a text writes one path at most
abbrev pub OnePath : Type 0
OnePath = (text : List ℕ) (p q : Path) → IsPathText text p → IsPathText text q → p ≡ q

-- a text writes one pattern at most
abbrev pub OnePattern : Type 0
OnePattern = (text : List ℕ) (p q : Pattern) → IsPatternText text p → IsPatternText text q → p ≡ q

-- a step whose place is a number of 64 bits
abbrev pub Fits : PatternStep → Type 0
Fits (exactly (name k)) = ⊤
Fits (exactly (place i)) = i < 2 ^ 64
Fits any_item = ⊤

-- each pattern has a text, whatever its names
abbrev pub EachHasAText : Type 0
EachHasAText = (pattern : Pattern) → pattern ≢ [] → AllByRecursion Fits pattern → (text : List ℕ)
    × IsPatternText text pattern
