-- A text writes one list of steps at most.
use Rattle.std.proofs.Common.{◌≡◌, ◌+◌, ℕ, List, [], ◌∷◌, ◌++◌, length, map, take, refl, sym, ap, ap₂, subst, ◌∙◌, arith}
use Rattle.std.proofs.lemmas.List.{take_more}
use Rattle.json.specs.Json.{document}
use Rattle.json_paths.specs.Paths.{Path}
use Rattle.json_paths.specs.Patterns.{Pattern, PatternStep, exactly}
use Rattle.json_paths.specs.Reading.{Begins}
use Rattle.json_paths.specs.Texts.{AreSteps, IsPlaceText, IsPatternText, IsPathText}
use Rattle.json_paths.proofs.LoopLemmas.{nothing}
use Rattle.json_paths.proofs.QuoteLemmas.{quote_len}
use Rattle.json_paths.proofs.ShapeLemmas.{Shape, plain, quoted, numbered, any, shape}
use Rattle.json_paths.proofs.StepLemmas.{run, run_is, run_of_other, cut_at, place_run, plain_begins, quoted_begins, place_begins, any_begins}

-- the step that every list of a text's steps begins with
record First (text : List ℕ) : Type 0 where
  step : PatternStep
  rest : List ℕ
  begins : Begins text (step ∷ []) rest

first : (x : ℕ) (t : List ℕ) (all : Pattern) → Shape x t all → First (x ∷ t)
first x t all (plain k rest more e s p _ a) =
    let n = run_is t k rest more s p a in
    subst (λ y. First (y ∷ t)) (sym e) (record { step = _; rest = _; begins = plain_begins t (omega (arith, p.0)) })
first x t all (quoted inner rest k more e s d _ a) =
    let u = inner ++ 34 ∷ rest in
    let w = cut_at inner rest u 34 (length inner) refl refl in
    let same : take (length inner + 1) u ≡ inner ++ 34 ∷ [] = take_more u (length inner) 0 w.2 ∙ ap₂ (λ f y. f ++ y ∷ []) w.0 w.3 in
    subst (λ y. First (y ∷ t)) (sym e) (subst (λ v. First (46 ∷ v)) (sym s)
    (record { step = _; rest = _; begins = quoted_begins u k (length inner) (quote_len inner rest k d) (ap (λ f. document (34 ∷ f)) same ∙ d) }))
first x t all (numbered ds rest i more e s p _ a) =
    let w = cut_at ds rest t 93 (run t) s (sym (place_run t ds rest i s p)) in
    subst (λ y. First (y ∷ t)) (sym e) (record { step = _; rest = _; begins = place_begins t i (subst (λ d. IsPlaceText d i) (sym w.0) p) w.2 w.3 })
first x t all (any rest more e s _ a) =
    let z = run_of_other t rest 93 s refl in
    let w = cut_at [] rest t 93 (run t) s (sym z) in
    subst (λ y. First (y ∷ t)) (sym e) (record { step = _; rest = _; begins = any_begins t w.2 w.3 z })

one_steps : (p q : Pattern) (text : List ℕ) → AreSteps text p → AreSteps text q → p ≡ q
one_steps [] [] text a b = refl
one_steps [] (s ∷ q) text a b = absurd (nothing (s ∷ q) (λ e. cc) (subst (λ t. AreSteps t (s ∷ q)) a b))
one_steps (s ∷ p) [] text a b = absurd (nothing (s ∷ p) (λ e. cc) (subst (λ t. AreSteps t (s ∷ p)) b a))
one_steps (s ∷ p) (r ∷ q) [] a b = absurd (nothing (s ∷ p) (λ e. cc) a)
one_steps (s ∷ p) (r ∷ q) (x ∷ t) a b =
    let f = first x t (s ∷ p) (shape x t (s ∷ p) a) in
    let m = f.begins.on (s ∷ p) a in
    let n = f.begins.on (r ∷ q) b in
    let left : p ≡ m.0 = cc in
    let right : q ≡ n.0 = cc in
    let tails : p ≡ q = one_steps p q f.rest (subst (AreSteps f.rest) (sym left) m.2) (subst (AreSteps f.rest) (sym right) n.2) in
    let heads : s ≡ r = cc in
    ap₂ (λ y ys. y ∷ ys) heads tails

pub one_pattern : (text : List ℕ) (p q : Pattern) → IsPatternText text p → IsPatternText text q → p ≡ q
one_pattern text p q a b = one_steps p q _ a.1 b.1

same_path : (p q : Path) → map exactly p ≡ map exactly q → p ≡ q
same_path [] [] e = refl
same_path [] (s ∷ q) e = absurd (cc)
same_path (s ∷ p) [] e = absurd (cc)
same_path (s ∷ p) (r ∷ q) e =
    let h : s ≡ r = cc in
    let t : map exactly p ≡ map exactly q = cc in
    ap₂ (λ y ys. y ∷ ys) h (same_path p q t)

pub one_path : (text : List ℕ) (p q : Path) → IsPathText text p → IsPathText text q → p ≡ q
one_path text p q a b = same_path p q (one_pattern text (map exactly p) (map exactly q) a b)
