-- Some text writes each list of steps.
use Rattle.std.proofs.Common.{◌≡◌, ◌≢◌, ◌≤◌, ℕ, List, [], ◌∷◌, ◌++◌, Some, refl, sym, ap, subst, inr, ◌∙◌, arith, append-nil, decimal}
use Rattle.std.proofs.lemmas.Fmt.{decimal_is_IsNumeral}
use Rattle.std.specs.List.{AllByRecursion}
use Rattle.json.proofs.Printed.Trees.{document-print}
use Rattle.json.specs.Json.{string, document, max_depth}
use Rattle.json.specs.Print.{escape, print, print_from, quoted}
use Rattle.json.specs.Tree.{json_tokens, depth}
use Rattle.json_paths.specs.Laws.{Fits}
use Rattle.json_paths.specs.Paths.{name, place}
use Rattle.json_paths.specs.Patterns.{Pattern, PatternStep, exactly, any_item}
use Rattle.json_paths.specs.Texts.{AreSteps, IsStepText, IsPatternText, with_dot}

-- a text of a step, each name within quotes
abbrev step_text : PatternStep → List ℕ
step_text (exactly (name k)) = 46 ∷ quoted k
step_text (exactly (place i)) = 91 ∷ (decimal i ++ 93 ∷ [])
step_text any_item = 91 ∷ 93 ∷ []

abbrev steps_text : Pattern → List ℕ
steps_text [] = []
steps_text (s ∷ steps) = step_text s ++ steps_text steps

printed : (k : List ℕ) → print (json_tokens (string k)) ≡ quoted k
unfolding print_from
printed k = append-nil (quoted k)

string_read : (k : List ℕ) → document (quoted k) ≡ Some (string k)
string_read k = let shallow : depth (string k) ≤ max_depth = omega arith in sym (ap document (printed k)) ∙ document-print (string k) tt shallow

one_written : (s : PatternStep) → Fits s → IsStepText (step_text s) s
one_written (exactly (name k)) h = (quoted k, refl, inr (escape k, refl, string_read k))
one_written (exactly (place i)) h = let d = decimal_is_IsNumeral i h in (decimal i, refl, (d.0, d.1, h))
one_written any_item h = refl

all_written : (steps : Pattern) → AllByRecursion Fits steps → AreSteps (steps_text steps) steps
all_written [] h = refl
all_written (s ∷ steps) h = (step_text s, steps_text steps, refl, one_written s h.0, all_written steps h.1)

whole : (steps : Pattern) → with_dot (steps_text steps) ≡ steps_text steps
whole [] = refl
whole (exactly (name k) ∷ steps) = refl
whole (exactly (place i) ∷ steps) = refl
whole (any_item ∷ steps) = refl

pub each_has_a_text : (pattern : Pattern) → pattern ≢ [] → AllByRecursion Fits pattern → (text : List ℕ) × IsPatternText text pattern
each_has_a_text pattern some h = (steps_text pattern, (some, subst (λ t. AreSteps t pattern) (sym (whole pattern)) (all_written pattern h)))
