-- What tolerances take out.
use Rattle.std.proofs.Common.{◌≡◌, ◌⊎◌, ⊎_elim, inl, inr, Bool, true, false, if◌then◌else◌, ◌||◌, List, [], ◌∷◌, Option, Some, subst, refl}
use Rattle.std.proofs.lemmas.Bool.{and_from, and_parts}
use Rattle.std.proofs.lemmas.List.Elements.{All-contains_itself, All-filter}
use Rattle.std.specs.List.{All, Contains, filter}
use Rattle.json.specs.Json.{Json, number}
use Rattle.json_paths.specs.Patterns.{begins}
use Rattle.json_tolerances.specs.declared.closeness.Margin.{Margin}
use Rattle.json_changes.specs.Differences.{Difference}
use Rattle.json_changes.specs.Laws.{AreNumbers, strict}
use Rattle.json_changes.specs.Rules.{Rules, Tolerance, allows, are_close, is_told, is_tolerated}

or_parts : (x y : Bool) → (x || y) ≡ true → (x ≡ true) ⊎ (y ≡ true)
or_parts true y h = inl refl
or_parts false y h = inr h

-- only numbers are close
close_numbers : (m : Margin) (left right : Option Json) → are_close m left right ≡ true → AreNumbers left right
close_numbers m (Some (number s)) (Some (number t)) h = tt
close_numbers m left right h = absurd (cc)

allowed_numbers : (t : Tolerance) (d : Difference) → allows t d ≡ true → AreNumbers d.left d.right
allowed_numbers t d h = close_numbers t.margin d.left d.right (and_parts (begins t.pattern d.path) (are_close t.margin d.left d.right) h).1

pub only_numbers : (ts : List Tolerance) (d : Difference) → is_tolerated ts d ≡ true → AreNumbers d.left d.right
only_numbers [] d h = absurd (cc)
only_numbers (t ∷ ts) d h = ⊎_elim (λ (here : allows t d ≡ true). allowed_numbers t d here) (λ (there : is_tolerated ts d ≡ true). only_numbers ts d there) (or_parts (allows t d) (is_tolerated ts d) h)

-- ---- two tests, of which one lets through less

test_first : (p q : Difference → Bool) (d : Difference) (ds es : List Difference) (b c : Bool) → q d ≡ b → p d ≡ c → (p d ≡ true → q d ≡ true) → filter p ds ≡ filter p es
    → filter p (if b then d ∷ ds else ds) ≡ (if c then d ∷ filter p es else filter p es)
test_first p q d ds es true c a f h e = (λ i. if f i then d ∷ e i else e i)
test_first p q d ds es false true a f h e = absurd (let some : q d ≡ true = h f in cc)
test_first p q d ds es false false a f h e = e

twice : (p q : Difference → Bool) → ((d : Difference) → p d ≡ true → q d ≡ true) → (ds : List Difference) → filter p (filter q ds) ≡ filter p ds
twice p q h [] = refl
twice p q h (d ∷ ds) = test_first p q d (filter q ds) ds (q d) (p d) refl refl (h d) (twice p q h ds)

told_strictly : (rules : Rules) (d : Difference) → is_told rules d ≡ true → is_told (strict rules) d ≡ true
told_strictly rules d h = and_from _ _ (and_parts _ _ h).0 refl

pub fewer_told : (rules : Rules) (ds : List Difference) → All (Contains (filter (is_told (strict rules)) ds)) (filter (is_told rules) ds)
fewer_told rules ds =
    let all : List Difference = filter (is_told (strict rules)) ds in
    subst (λ (es : List Difference). All (Contains all) es) (twice (is_told rules) (is_told (strict rules)) (told_strictly rules) ds) (All-filter (is_told rules) (Contains all) all (All-contains_itself all))
