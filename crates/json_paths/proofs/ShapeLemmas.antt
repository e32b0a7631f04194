-- What a text that steps write looks like at its front.
use Rattle.std.proofs.Common.{◌≡◌, ◌⊎◌, ◌+◌, ℕ, suc, true, false, cond, inl, inr, List, [], ◌∷◌, ◌++◌, length, take, Some, refl, sym, ap, subst, ◌∙◌, append_assoc, arith}
use Rattle.std.specs.List.{AllByRecursion, prefix_len}
use Rattle.std.specs.Prelude.{⊤}
use Rattle.json.specs.Json.{string, document}
use Rattle.json_paths.specs.Paths.{name, place}
use Rattle.json_paths.specs.Patterns.{Pattern, exactly, any_item}
use Rattle.json_paths.specs.Texts.{is_plain, IsPlaceText, IsQuotedName, IsPlainName, AreSteps}

-- the first byte, what stands after it, and the steps of both: one constructor for each kind of the first step
pub data Shape (x : ℕ) (t : List ℕ) (all : Pattern) : Type 0 where
  plain : (k rest : List ℕ) (more : Pattern) → x ≡ 46 → t ≡ k ++ rest → IsPlainName k → all ≡ exactly (name k) ∷ more → AreSteps rest more → Shape x t all
  quoted : (inner rest k : List ℕ) (more : Pattern) → x ≡ 46 → t ≡ 34 ∷ (inner ++ 34 ∷ rest) → document (34 ∷ (inner ++ 34 ∷ [])) ≡ Some (string k) → all ≡ exactly (name k) ∷ more → AreSteps rest more → Shape x t all
  numbered : (ds rest : List ℕ) (i : ℕ) (more : Pattern) → x ≡ 91 → t ≡ ds ++ 93 ∷ rest → IsPlaceText ds i → all ≡ exactly (place i) ∷ more → AreSteps rest more → Shape x t all
  any : (rest : List ℕ) (more : Pattern) → x ≡ 91 → t ≡ 93 ∷ rest → all ≡ any_item ∷ more → AreSteps rest more → Shape x t all

heads : (x y : ℕ) (t u : List ℕ) → x ∷ t ≡ y ∷ u → x ≡ y
heads x y t u e = cc

tails : (x y : ℕ) (t u : List ℕ) → x ∷ t ≡ y ∷ u → t ≡ u
tails x y t u e = cc

name_shape : (x : ℕ) (t front rest k written : List ℕ) (more : Pattern) → x ∷ t ≡ front ++ rest → front ≡ 46 ∷ written → ((written ≡ k) × IsPlainName k) ⊎ IsQuotedName written k → AreSteps rest more
    → Shape x t (exactly (name k) ∷ more)
name_shape x t front rest k written more e s (inl (w, p)) a =
    let whole : x ∷ t ≡ 46 ∷ (written ++ rest) = e ∙ ap (λ f. f ++ rest) s in
    plain k rest more (heads _ _ _ _ whole) (tails _ _ _ _ whole ∙ ap (λ f. f ++ rest) w) p refl a
name_shape x t front rest k written more e s (inr (inner, w, d)) a =
    let whole : x ∷ t ≡ 46 ∷ (written ++ rest) = e ∙ ap (λ f. f ++ rest) s in
    quoted inner rest k more (heads _ _ _ _ whole) (tails _ _ _ _ whole ∙ ap (λ f. f ++ rest) w ∙ ap (λ f. 34 ∷ f) (append_assoc inner (34 ∷ []) rest)) (sym (ap document w) ∙ d) refl a

pub shape : (x : ℕ) (t : List ℕ) (all : Pattern) → AreSteps (x ∷ t) all → Shape x t all
shape x t [] h = absurd (cc)
shape x t (exactly (name k) ∷ more) (front, rest, e, (written, s, n), a) = name_shape x t front rest k written more e s n a
shape x t (exactly (place i) ∷ more) (front, rest, e, (ds, s, d), a) =
    let whole : x ∷ t ≡ 91 ∷ ((ds ++ 93 ∷ []) ++ rest) = e ∙ ap (λ f. f ++ rest) s in
    numbered ds rest i more (heads _ _ _ _ whole) (tails _ _ _ _ whole ∙ append_assoc ds (93 ∷ []) rest) d refl a
shape x t (any_item ∷ more) (front, rest, e, s, a) =
    let whole : x ∷ t ≡ 91 ∷ 93 ∷ rest = e ∙ ap (λ f. f ++ rest) s in
    any rest more (heads _ _ _ _ whole) (tails _ _ _ _ whole) refl a

-- a name without quotes ends before what is left
abbrev pub Stops : List ℕ → Type 0
Stops [] = ⊤
Stops (x ∷ xs) = is_plain x ≡ false

shape_stops : (x : ℕ) (t : List ℕ) (all : Pattern) → Shape x t all → is_plain x ≡ false
shape_stops x t all (plain k rest more e _ _ _ _) = ap is_plain e
shape_stops x t all (quoted inner rest k more e _ _ _ _) = ap is_plain e
shape_stops x t all (numbered ds rest i more e _ _ _ _) = ap is_plain e
shape_stops x t all (any rest more e _ _ _) = ap is_plain e

pub steps_stop : (text : List ℕ) (all : Pattern) → AreSteps text all → Stops text
steps_stop [] all h = tt
steps_stop (x ∷ t) all h = shape_stops x t all (shape x t all h)

-- plain bytes up to where they stop
pub run_len : (k rest : List ℕ) → AllByRecursion (λ x. is_plain x ≡ true) k → Stops rest → prefix_len is_plain (k ++ rest) ≡ length k
run_len [] [] a s = refl
run_len [] (x ∷ xs) a s = ap (λ b. cond b (1 + prefix_len is_plain xs) 0) s
run_len (x ∷ k) rest a s = ap (λ b. cond b (1 + prefix_len is_plain (k ++ rest)) 0) a.0 ∙ omega (arith, run_len k rest a.1 s)

run_more : (b : _) (x n : ℕ) (xs : List ℕ) → is_plain x ≡ b → AllByRecursion (λ y. is_plain y ≡ true) (take n xs) → AllByRecursion (λ y. is_plain y ≡ true) (take (cond b (1 + n) 0) (x ∷ xs))
run_more true x n xs e a = let next : suc n ≡ 1 + n = omega arith in subst (λ m. AllByRecursion (λ y. is_plain y ≡ true) (take m (x ∷ xs))) next (e, a)
run_more false x n xs e a = tt

pub run_plain : (t : List ℕ) → AllByRecursion (λ x. is_plain x ≡ true) (take (prefix_len is_plain t) t)
run_plain [] = tt
run_plain (x ∷ t) = run_more (is_plain x) x (prefix_len is_plain t) t refl (run_plain t)
