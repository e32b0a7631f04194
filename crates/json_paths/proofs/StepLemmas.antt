-- Which step a text begins with, told from its bytes.
use Rattle.std.proofs.Common.{◌≡◌, ◌≢◌, ◌<◌, ◌+◌, ◌||◌, not, false, ℕ, suc, true, cond, inl, inr, List, [], ◌∷◌, ◌++◌, length, take, drop, get_or, Some, refl, sym, ap, ap₂, subst, ◌∙◌, append_assoc, arith, take-append-drop, length-take-le}
use Rattle.std.proofs.lemmas.Bool.{ne_eqb}
use Rattle.std.proofs.lemmas.List.{take_at, drop_at, get_or_at, take_more, length-append}
use Rattle.std.proofs.lemmas.List.Sums.{prefix_len-le-length}
use Rattle.std.proofs.lemmas.Str.Parse.{digit_from_value}
use Rattle.std.specs.List.{AllByRecursion, prefix_len}
use Rattle.std.specs.Char.{digit_value}
use Rattle.std.specs.Str.Parse.{AllDigits, digits_value}
use Rattle.json.specs.Json.{string, document}
use Rattle.json_paths.specs.Paths.{name, place}
use Rattle.json_paths.specs.Patterns.{Pattern, PatternStep, exactly, any_item}
use Rattle.json_paths.specs.Reading.{Begins, NoSteps, up_to_quote}
use Rattle.json_paths.specs.Texts.{is_plain, IsPlaceText, IsPlainName, AreSteps}
use Rattle.json_paths.proofs.QuoteLemmas.{IsQuoteAt, quote_at, quote_len}
use Rattle.json_paths.proofs.ShapeLemmas.{Shape, plain, quoted, numbered, any, shape, steps_stop, run_len, run_plain}

-- how many plain bytes stand in front
abbrev pub run : List ℕ → ℕ
run = prefix_len is_plain

-- ---- a name without quotes

pub run_is : (t k rest : List ℕ) (more : Pattern) → t ≡ k ++ rest → IsPlainName k → AreSteps rest more → run t ≡ length k
run_is t k rest more e p a = ap run e ∙ run_len k rest p.1 (steps_stop rest more a)

pub run_of_other : (t u : List ℕ) (x : ℕ) → t ≡ x ∷ u → is_plain x ≡ false → run t ≡ 0
run_of_other t u x e h = ap run e ∙ ap (λ b. cond b (1 + run u) 0) h

-- the steps that a shape ends with, seen at the end of its first step
shown : (all : Pattern) (s s' : PatternStep) (more : Pattern) (rest rest' : List ℕ) → all ≡ s ∷ more → s ≡ s' → rest ≡ rest' → AreSteps rest more → (m : Pattern) × (all ≡ s' ∷ m) × AreSteps rest' m
shown all s s' more rest rest' e f g a = (more, e ∙ ap (λ x. x ∷ more) f, subst (λ r. AreSteps r more) g a)

module _ (t : List ℕ) (some : 0 < run t) where
  plain_on : (all : Pattern) → Shape 46 t all → (more : Pattern) × (all ≡ exactly (name (take (run t) t)) ∷ more) × AreSteps (drop (run t) t) more
  plain_on all (plain k rest more _ e p is a) =
      let n : length k ≡ run t = sym (run_is t k rest more e p a) in
      shown all _ _ more rest _ is (ap (λ x. exactly (name x)) (sym (take_at k rest _ n) ∙ ap (take (run t)) (sym e))) (sym (drop_at k rest _ n) ∙ ap (drop (run t)) (sym e)) a
  plain_on all (quoted inner rest k more _ e d is a) = let z = run_of_other t _ 34 e refl in let no : ⊥ = omega arith in absurd no
  plain_on all (numbered ds rest i more x _ _ _ _) = let no : ⊥ = omega arith in absurd no
  plain_on all (any rest more x _ _ _) = let no : ⊥ = omega arith in absurd no

  pub plain_begins : Begins (46 ∷ t) (exactly (name (take (run t) t)) ∷ []) (drop (run t) t)
  plain_begins = record {
    back = λ more a. (
      46 ∷ take (run t) t,
      drop (run t) t,
      ap (λ l. 46 ∷ l) (sym (take-append-drop (run t) t)),
      (take (run t) t, refl, inl (refl, (omega (arith, length-take-le (run t) t (prefix_len-le-length is_plain t)), run_plain t))),
      a,
    );
    on = λ all h. plain_on all (shape 46 t all h);
  }

no_plain_shape : (t : List ℕ) (all : Pattern) → run t ≡ 0 → get_or t 0 0 ≢ 34 → Shape 46 t all → ⊥
no_plain_shape t all z q (plain k rest more _ e p is a) = let n = run_is t k rest more e p a in omega (arith, p.0)
no_plain_shape t all z q (quoted inner rest k more _ e d is a) = q (ap (λ l. get_or l 0 0) e)
no_plain_shape t all z q (numbered ds rest i more x _ _ _ _) = omega arith
no_plain_shape t all z q (any rest more x _ _ _) = omega arith

pub no_plain : (t : List ℕ) → run t ≡ 0 → get_or t 0 0 ≢ 34 → NoSteps (46 ∷ t)
no_plain t z q all h = no_plain_shape t all z q (shape 46 t all h)

-- ---- a name within quotes

-- the text within quotes up to its end, whose last byte is a quote
ends_so : (u : List ℕ) (n : ℕ) → IsQuoteAt u n → take (n + 1) u ≡ take n u ++ 34 ∷ []
ends_so u n w = take_more u n 0 w.within ∙ ap (λ x. take n u ++ x ∷ []) w.byte

pub cut_at : (p q u : List ℕ) (x n : ℕ) → u ≡ p ++ x ∷ q → length p ≡ n → (take n u ≡ p) × (drop (n + 1) u ≡ q) × (n < length u) × (get_or u n 0 ≡ x)
cut_at p q u x n e l =
    let behind : u ≡ (p ++ x ∷ []) ++ q = e ∙ sym (append_assoc p (x ∷ []) q) in
    let more : length (p ++ x ∷ []) ≡ n + 1 = omega (arith, length-append p (x ∷ []), l) in
    let long : length u ≡ length p + suc (length q) = ap length e ∙ length-append p (x ∷ q) in
    (ap (take n) e ∙ take_at p (x ∷ q) n l, ap (drop (n + 1)) behind ∙ drop_at (p ++ x ∷ []) q (n + 1) more, omega arith, ap (λ v. get_or v n 0) e ∙ get_or_at p x q 0 n l)

module _ (u k : List ℕ) (n : ℕ) (ends : up_to_quote false u ≡ Some n) (writes : document (34 ∷ take (n + 1) u) ≡ Some (string k)) where
  quoted_on : (all : Pattern) → Shape 46 (34 ∷ u) all → (more : Pattern) × (all ≡ exactly (name k) ∷ more) × AreSteps (drop (n + 1) u) more
  quoted_on all (plain l rest more _ e p is a) =
      let z = run_of_other (34 ∷ u) u 34 refl refl in let m = run_is (34 ∷ u) l rest more e p a in let no : ⊥ = omega (arith, p.0) in absurd no
  quoted_on all (quoted inner rest l more _ e d is a) =
      let v : u ≡ inner ++ 34 ∷ rest = cc in
      let m : Some (length inner) ≡ Some n = sym (quote_len inner rest l d) ∙ ap (up_to_quote false) (sym v) ∙ ends in
      let w = cut_at inner rest u 34 n v (cc) in
      let same : take (n + 1) u ≡ inner ++ 34 ∷ [] = take_more u n 0 w.2 ∙ ap₂ (λ f x. f ++ x ∷ []) w.0 w.3 in
      let names : Some (string l) ≡ Some (string k) = sym d ∙ ap (λ f. document (34 ∷ f)) (sym same) ∙ writes in
      let one : l ≡ k = cc in
      shown all _ _ more rest _ is (ap (λ x. exactly (name x)) one) (sym w.1) a
  quoted_on all (numbered ds rest i more x _ _ _ _) = let no : ⊥ = omega arith in absurd no
  quoted_on all (any rest more x _ _ _) = let no : ⊥ = omega arith in absurd no

  pub quoted_begins : Begins (46 ∷ 34 ∷ u) (exactly (name k) ∷ []) (drop (n + 1) u)
  quoted_begins =
      let w = quote_at u false n ends in
      let whole : 34 ∷ take (n + 1) u ≡ 34 ∷ (take n u ++ 34 ∷ []) = ap (λ f. 34 ∷ f) (ends_so u n w) in
      record {
        back = λ more a. (46 ∷ 34 ∷ take (n + 1) u, drop (n + 1) u, ap (λ l. 46 ∷ 34 ∷ l) (sym (take-append-drop (n + 1) u)), (34 ∷ take (n + 1) u, refl, inr (take n u, whole, writes)), a);
        on = λ all h. quoted_on all (shape 46 (34 ∷ u) all h);
      }

module _ (u : List ℕ) (fails : (n : ℕ) (k : List ℕ) → up_to_quote false u ≡ Some n → document (34 ∷ take (n + 1) u) ≡ Some (string k) → ⊥) where
  no_quoted_shape : (all : Pattern) → Shape 46 (34 ∷ u) all → ⊥
  no_quoted_shape all (plain l rest more _ e p is a) =
      let z = run_of_other (34 ∷ u) u 34 refl refl in let m = run_is (34 ∷ u) l rest more e p a in omega (arith, p.0)
  no_quoted_shape all (quoted inner rest l more _ e d is a) =
      let v : u ≡ inner ++ 34 ∷ rest = cc in
      let w = cut_at inner rest u 34 (length inner) v refl in
      let same : take (length inner + 1) u ≡ inner ++ 34 ∷ [] = take_more u (length inner) 0 w.2 ∙ ap₂ (λ f x. f ++ x ∷ []) w.0 w.3 in
      fails (length inner) l (ap (up_to_quote false) v ∙ quote_len inner rest l d) (ap (λ f. document (34 ∷ f)) same ∙ d)
  no_quoted_shape all (numbered ds rest i more x _ _ _ _) = omega arith
  no_quoted_shape all (any rest more x _ _ _) = omega arith

  pub no_quoted : NoSteps (46 ∷ 34 ∷ u)
  no_quoted all h = no_quoted_shape all (shape 46 (34 ∷ u) all h)

-- ---- places

digit_plain : (c : ℕ) → digit_value c < 10 → is_plain c ≡ true
digit_plain c h =
    let d = digit_from_value c h in
    ap not (or_none (ne_eqb c 46 (λ z. omega (arith, d.0))) (ne_eqb c 91 (λ z. omega (arith, d.1))) (ne_eqb c 93 (λ z. omega (arith, d.1))) (ne_eqb c 34 (λ z. omega (arith, d.0))))
  where
    or_none : {a b d e : _} → a ≡ false → b ≡ false → d ≡ false → e ≡ false → ((a || b || d) || e) ≡ false
    or_none p q r s = cc

digits_plain : (ds : List ℕ) → AllDigits 10 ds → AllByRecursion (λ x. is_plain x ≡ true) ds
digits_plain [] h = tt
digits_plain (x ∷ ds) h = (digit_plain x h.0, digits_plain ds h.1)

pub place_run : (t ds rest : List ℕ) (i : ℕ) → t ≡ ds ++ 93 ∷ rest → IsPlaceText ds i → run t ≡ length ds
place_run t ds rest i e p = ap run e ∙ run_len ds (93 ∷ rest) (digits_plain ds p.0.1) refl

module _ (t : List ℕ) (i : ℕ) (digits : IsPlaceText (take (run t) t) i) (within : run t < length t) (closes : get_or t (run t) 0 ≡ 93) where
  place_on : (all : Pattern) → Shape 91 t all → (more : Pattern) × (all ≡ exactly (place i) ∷ more) × AreSteps (drop (run t + 1) t) more
  place_on all (plain k rest more x _ _ _ _) = let no : ⊥ = omega arith in absurd no
  place_on all (quoted inner rest k more x _ _ _ _) = let no : ⊥ = omega arith in absurd no
  place_on all (numbered ds rest j more _ e p is a) =
      let w = cut_at ds rest t 93 (run t) e (sym (place_run t ds rest j e p)) in
      let same : j ≡ i = sym p.1 ∙ ap (digits_value 10) (sym w.0) ∙ digits.1 in
      shown all _ _ more rest _ is (ap (λ x. exactly (place x)) same) (sym w.1) a
  place_on all (any rest more _ e is a) =
      let z = run_of_other t rest 93 e refl in let l = length-take-le (run t) t (prefix_len-le-length is_plain t) in
      let no : ⊥ = omega (arith, digits.0.0) in absurd no

  pub place_begins : Begins (91 ∷ t) (exactly (place i) ∷ []) (drop (run t + 1) t)
  place_begins =
      let whole : t ≡ (take (run t) t ++ 93 ∷ []) ++ drop (run t + 1) t =
      sym (take-append-drop (run t + 1) t) ∙ ap (λ f. f ++ drop (run t + 1) t) (take_more t (run t) 0 within ∙ ap (λ x. take (run t) t ++ x ∷ []) closes) in
      record {
        back = λ more a. (91 ∷ (take (run t) t ++ 93 ∷ []), drop (run t + 1) t, ap (λ l. 91 ∷ l) whole, (take (run t) t, refl, digits), a);
        on = λ all h. place_on all (shape 91 t all h);
      }

module _ (t : List ℕ) (within : run t < length t) (closes : get_or t (run t) 0 ≡ 93) (empty : run t ≡ 0) where
  any_on : (all : Pattern) → Shape 91 t all → (more : Pattern) × (all ≡ any_item ∷ more) × AreSteps (drop (run t + 1) t) more
  any_on all (plain k rest more x _ _ _ _) = let no : ⊥ = omega arith in absurd no
  any_on all (quoted inner rest k more x _ _ _ _) = let no : ⊥ = omega arith in absurd no
  any_on all (numbered ds rest j more _ e p is a) = let l = place_run t ds rest j e p in let no : ⊥ = omega (arith, p.0.0) in absurd no
  any_on all (any rest more _ e is a) =
      let w = cut_at [] rest t 93 (run t) e (sym empty) in
      shown all _ _ more rest _ is refl (sym w.1) a

  pub any_begins : Begins (91 ∷ t) (any_item ∷ []) (drop (run t + 1) t)
  any_begins =
      let first : take (run t + 1) t ≡ 93 ∷ [] = take_more t (run t) 0 within ∙ ap₂ (λ n x. take n t ++ x ∷ []) empty closes in
      record {
        back = λ more a. (91 ∷ 93 ∷ [], drop (run t + 1) t, ap (λ l. 91 ∷ l) (sym (take-append-drop (run t + 1) t) ∙ ap (λ f. f ++ drop (run t + 1) t) first), refl, a);
        on = λ all h. any_on all (shape 91 t all h);
      }

module _ (t : List ℕ) (fails : (run t < length t) → get_or t (run t) 0 ≡ 93 → (0 < run t) × ((i : ℕ) → IsPlaceText (take (run t) t) i → ⊥)) where
  no_item_shape : (all : Pattern) → Shape 91 t all → ⊥
  no_item_shape all (plain k rest more x _ _ _ _) = omega arith
  no_item_shape all (quoted inner rest k more x _ _ _ _) = omega arith
  no_item_shape all (numbered ds rest j more _ e p is a) =
      let w = cut_at ds rest t 93 (run t) e (sym (place_run t ds rest j e p)) in
      (fails w.2 w.3).1 j (subst (λ d. IsPlaceText d j) (sym w.0) p)
  no_item_shape all (any rest more _ e is a) =
      let z = run_of_other t rest 93 e refl in
      let w = cut_at [] rest t 93 (run t) e (sym z) in
      let f = (fails w.2 w.3).0 in omega arith

  pub no_item : NoSteps (91 ∷ t)
  no_item all h = no_item_shape all (shape 91 t all h)

-- ---- neither a dot nor a bracket

other_shape : (x : ℕ) (t : List ℕ) (all : Pattern) → x ≢ 46 → x ≢ 91 → Shape x t all → ⊥
other_shape x t all d b (plain k rest more e _ _ _ _) = d e
other_shape x t all d b (quoted inner rest k more e _ _ _ _) = d e
other_shape x t all d b (numbered ds rest i more e _ _ _ _) = b e
other_shape x t all d b (any rest more e _ _ _) = b e

pub no_other : (x : ℕ) (t : List ℕ) → x ≢ 46 → x ≢ 91 → NoSteps (x ∷ t)
no_other x t d b all h = other_shape x t all d b (shape x t all h)
