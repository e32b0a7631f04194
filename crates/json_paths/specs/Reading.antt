-- The steps that a reader finds in a text. Only private clauses cite this.
use Rattle.std.specs.Prelude.{◌≡◌, ◌==◌, ◌<◌, ◌≤◌, ◌&&◌, ℕ, suc, Bool, cond, not, List, [], ◌∷◌}
use Rattle.std.specs.Prelude.{◌++◌, length, drop, Option, Some, None, option_map, Result}
use Rattle.std.specs.Prelude.{MatchResult}
use Rattle.json.specs.Ascii.{quote, backslash}
use Rattle.json_paths.specs.Errors.{IsInvalid}
use Rattle.json_paths.specs.PatternViews.{pattern_step_view}
use Rattle.json_paths.specs.Patterns.{Pattern}
use Rattle.json_paths.specs.Texts.{AreSteps, with_dot}
use Rattle.json_paths.specs.declared.error.PathError.{PathError}
use Rattle.json_paths.specs.declared.parse.Found.{Found}

-- the number of bytes before the first quote that no backslash escapes
abbrev pub up_to_quote : Bool → List ℕ → Option ℕ
up_to_quote escaped [] = None
up_to_quote escaped (x ∷ xs) =
    cond ((x == quote) && not escaped) (Some 0)
    (option_map suc (up_to_quote ((x == backslash) && not escaped) xs))

-- the text that is left to be read at a place, with the first dot
abbrev pub left_at : List ℕ → ℕ → List ℕ
left_at text start = cond (start == 0) (with_dot text) (drop start text)

-- a text writes these steps and then those that the rest writes, and no others
pub record Begins (text : List ℕ) (steps : Pattern) (rest : List ℕ) : Type 0 where
  pub back : (more : Pattern) → AreSteps rest more → AreSteps text (steps ++ more)
  pub on : (all : Pattern) → AreSteps text all → (more : Pattern) × (all ≡ steps ++ more)
      × AreSteps rest more

-- the text writes no steps
abbrev pub NoSteps : List ℕ → Type 0
NoSteps text = (all : Pattern) → AreSteps text all → ⊥

-- the step at the beginning of the text that is left, and the place after it; an error if there is
-- no step
abbrev pub Finds : List ℕ → ℕ → List ℕ → Result Found PathError → Type 0
Finds text start left r = MatchResult r
    (λ f. (start < f.end) × (f.end ≤ length text)
    × Begins left (pattern_step_view f.step ∷ []) (drop f.end text))
    (λ e. IsInvalid e → NoSteps left)
