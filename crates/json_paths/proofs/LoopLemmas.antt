-- Steps that are read one after another.
use Rattle.std.proofs.Common.{◌≡◌, ◌≢◌, ◌==◌, ◌<◌, ◌≤◌, true≢false, ℕ, Bool, true, false, cond, List, [], ◌∷◌, ◌++◌, length, map, drop, Ok, Err, Result, refl, sym, ap, subst, ◌∙◌, arith, append_assoc, append-nil}
use Rattle.std.proofs.lemmas.List.{drop_all}
use Rattle.json_paths.specs.PatternViews.{pattern_step_view}
use Rattle.json_paths.specs.Paths.{Path, name, place}
use Rattle.json_paths.specs.Patterns.{Pattern, PatternStep, exactly, any_item}
use Rattle.json_paths.specs.Reading.{Begins, Finds, NoSteps, left_at}
use Rattle.json_paths.specs.Texts.{is_plain, AreSteps, IsPatternText, with_dot}
use Rattle.json_paths.specs.declared.error.PathError.{PathError}
use Rattle.json_paths.specs.declared.parse.Found.{Found}
use Rattle.json_paths.proofs.PlaceLemmas.{left_behind}

-- a step that was looked for further on, in what is left here
pub finds_here : (d : List ℕ) (start here : ℕ) (left seen : List ℕ) (r : Result Found PathError) → here ≤ start → left ≡ seen → Finds d start left r → Finds d here seen r
finds_here d start here left seen (Ok f) le e h = (omega (arith, h.0), h.1, subst (λ l. Begins l (pattern_step_view f.step ∷ []) (drop f.end d)) e h.2)
finds_here d start here left seen (Err x) le e h = λ i. subst NoSteps e (h i)

begins_more : (text mid rest : List ℕ) (xs ys : Pattern) → Begins text xs mid → Begins mid ys rest → Begins text (xs ++ ys) rest
begins_more text mid rest xs ys f g = record {
  back = λ more a. subst (AreSteps text) (sym (append_assoc xs ys more)) (f.back (ys ++ more) (g.back more a));
  on = λ all h. let p = f.on all h in let q = g.on p.0 p.2 in (q.0, p.1 ∙ ap (λ l. xs ++ l) q.1 ∙ sym (append_assoc xs ys q.0), q.2);
}

-- one step more
pub steps_more : (text d : List ℕ) (start end : ℕ) (before after : Pattern) (s : PatternStep) → Begins text before (left_at d start) → start < end → Begins (left_at d start) (s ∷ []) (drop end d) → after ≡ before ++ s ∷ []
    → Begins text after (left_at d end)
steps_more text d start end before after s f some g e =
    subst (λ steps. Begins text steps (left_at d end)) (sym e)
    (subst (λ r. Begins text (before ++ s ∷ []) r) (sym (left_behind d end (omega arith))) (begins_more text (left_at d start) (drop end d) before (s ∷ []) f g))

dotted : (d : List ℕ) → 0 < length d → with_dot d ≢ []
dotted [] h e = omega arith
dotted (x ∷ xs) h e = go (is_plain x) e
  where
    go : (b : Bool) → cond b (46 ∷ x ∷ xs) (x ∷ xs) ≡ [] → ⊥
    go true e = absurd (cc)
    go false e = absurd (cc)

-- the steps at the text's end are those that it writes
pub steps_end : (d : List ℕ) (end : ℕ) (steps : Pattern) → 0 < length d → length d ≤ end → Begins (with_dot d) steps (left_at d end) → IsPatternText d steps
steps_end d end steps some ends f =
    let none : left_at d end ≡ [] = left_behind d end (omega arith) ∙ drop_all end d ends in
    let all = subst (AreSteps (with_dot d)) (append-nil steps) (f.back [] none) in
    (λ e. dotted d some (subst (AreSteps (with_dot d)) e all), all)

-- no step is written by nothing
pub nothing : (all : Pattern) → all ≢ [] → AreSteps [] all → ⊥
nothing [] some h = some refl
nothing (exactly (name k) ∷ more) some (front, rest, e, (written, s, _), _) = let no : [] ≡ 46 ∷ (written ++ rest) = e ∙ ap (λ f. f ++ rest) s in absurd (cc)
nothing (exactly (place i) ∷ more) some (front, rest, e, (ds, s, _), _) = let no : [] ≡ 91 ∷ ((ds ++ 93 ∷ []) ++ rest) = e ∙ ap (λ f. f ++ rest) s in absurd (cc)
nothing (any_item ∷ more) some (front, rest, e, s, _) = let no : [] ≡ 91 ∷ 93 ∷ rest = e ∙ ap (λ f. f ++ rest) s in absurd (cc)

pub some_text : (d : List ℕ) → false ≡ (length d == 0) → 0 < length d
some_text [] e = absurd (true≢false (sym e))
some_text (x ∷ xs) e = omega arith

-- a text of nothing is no pattern's
pub no_text : (d : List ℕ) → length d ≡ 0 → (pattern : Pattern) → IsPatternText d pattern → ⊥
no_text [] e pattern h = nothing pattern h.0 h.1
no_text (x ∷ xs) e pattern h = omega arith

-- where no step is, no pattern is
pub no_pattern : (d : List ℕ) (start : ℕ) (before pattern : Pattern) → Begins (with_dot d) before (left_at d start) → NoSteps (left_at d start) → IsPatternText d pattern → ⊥
no_pattern d start before pattern f none h = let p = f.on pattern h.1 in none p.0 p.2

exact : (path before : Path) (more : Pattern) → map exactly path ≡ map exactly before ++ any_item ∷ more → ⊥
exact [] [] more e = absurd (cc)
exact [] (b ∷ before) more e = absurd (cc)
exact (s ∷ path) [] more e = absurd (cc)
exact (s ∷ path) (b ∷ before) more e = exact path before more (cc)

-- where the step is one to any item, no path is
pub no_path : (d rest : List ℕ) (start : ℕ) (before path : Path) → Begins (with_dot d) (map exactly before) (left_at d start) → Begins (left_at d start) (any_item ∷ []) rest → IsPatternText d (map exactly path) → ⊥
no_path d rest start before path f g h =
    let p = f.on (map exactly path) h.1 in
    let q = g.on p.0 p.2 in
    exact path before q.0 (p.1 ∙ ap (λ l. map exactly before ++ l) q.1)
