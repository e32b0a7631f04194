-- Texts of paths and of patterns, as a user writes them.
--
-- The text a.b[0] writes the names a and b and the place 0, and ."a.b" writes one name, a.b. In a
-- pattern [] writes the step to any item, as in items[].price.
use Rattle.std.specs.Prelude.{◌≡◌, ◌≢◌, ◌⊎◌, ◌<◌, ◌^◌, ◌==◌, ◌||◌, ℕ, Bool, true, cond, not, List}
use Rattle.std.specs.Prelude.{[], ◌∷◌, ◌++◌, length, map, Some}
use Rattle.std.specs.List.{AllByRecursion}
use Rattle.std.specs.Str.Parse.{IsNumeral, digits_value}
use Rattle.json.specs.Ascii.{quote, dot, open_bracket, close_bracket}
use Rattle.json.specs.Json.{string, document}
use Rattle.json_paths.specs.Paths.{Path, name, place}
use Rattle.json_paths.specs.Patterns.{Pattern, PatternStep, exactly, any_item}

-- a byte that may stand in a name without quotes
abbrev pub is_plain : ℕ → Bool
is_plain x = not ((x == dot) || (x == open_bracket) || (x == close_bracket) || (x == quote))

-- a name that may stand without quotes
abbrev pub IsPlainName : List ℕ → Type 0
IsPlainName k = (0 < length k) × AllByRecursion (λ x. is_plain x ≡ true) k

-- a name within quotes: a string of JSON, and nothing around it
abbrev pub IsQuotedName : List ℕ → List ℕ → Type 0
IsQuotedName text k = (inner : List ℕ) × (text ≡ quote ∷ (inner ++ quote ∷ []))
    × (document text ≡ Some (string k))

-- the decimal digits of a place
abbrev pub IsPlaceText : List ℕ → ℕ → Type 0
IsPlaceText digits i = IsNumeral 10 digits × (digits_value 10 digits ≡ i) × (i < 2 ^ 64)

-- the text of a step: a dot and a name, or a place within brackets, which are empty for any item
abbrev pub IsStepText : List ℕ → PatternStep → Type 0
IsStepText text (exactly (name k)) = (written : List ℕ) × (text ≡ dot ∷ written)
    × (((written ≡ k) × IsPlainName k) ⊎ IsQuotedName written k)
IsStepText text (exactly (place i)) = (digits : List ℕ)
    × (text ≡ open_bracket ∷ (digits ++ close_bracket ∷ [])) × IsPlaceText digits i
IsStepText text any_item = text ≡ open_bracket ∷ close_bracket ∷ []

-- the texts of steps, one after another
abbrev pub AreSteps : List ℕ → Pattern → Type 0
AreSteps text [] = text ≡ []
AreSteps text (s ∷ steps) = (front : List ℕ) × (rest : List ℕ) × (text ≡ front ++ rest)
    × IsStepText front s × AreSteps rest steps

-- a text with its first dot, which may be left out before a name without quotes
abbrev pub with_dot : List ℕ → List ℕ
with_dot [] = []
with_dot (x ∷ xs) = cond (is_plain x) (dot ∷ x ∷ xs) (x ∷ xs)

-- the text of a pattern, which has at least one step
abbrev pub IsPatternText : List ℕ → Pattern → Type 0
IsPatternText text pattern = (pattern ≢ []) × AreSteps (with_dot text) pattern

-- the text of a path
abbrev pub IsPathText : List ℕ → Path → Type 0
IsPathText text path = IsPatternText text (map exactly path)

-- no path has the text
abbrev pub IsNoPath : List ℕ → Type 0
IsNoPath text = (path : Path) → ¬ (IsPathText text path)

-- no pattern has the text
abbrev pub IsNoPattern : List ℕ → Type 0
IsNoPattern text = (pattern : Pattern) → ¬ (IsPatternText text pattern)
