-- What stands at a place of a text, told from where its plain bytes and its quotes end.
use Rattle.std.proofs.Common.{◌≡◌, ◌≢◌, ◌⊎◌, ◌<◌, ◌≤◌, ◌+◌, ◌-◌, ◌==◌, ◌||◌, not, ℕ, zero, suc, Bool, true, false, cond, inl, inr, List, [], ◌∷◌, length, take, drop, get_or, Option, Some, None, option_map, IsUtf8, IsCharBoundary, refl, sym, ap, subst, ◌∙◌, arith, true≢false, drop-drop, get_or-drop, length-drop, add-zero}
use Rattle.std.proofs.lemmas.Bool.{eqb-true, ne_eqb}
use Rattle.std.proofs.lemmas.List.{drop_more}
use Rattle.std.proofs.lemmas.List.Sums.{prefix_len-le-length, prefix_len_stops}
use Rattle.std.proofs.lemmas.Str.{IsCharBoundary-after_ascii}
use Rattle.json.specs.Json.{string, document}
use Rattle.json_paths.specs.Paths.{name, place}
use Rattle.json_paths.specs.Patterns.{exactly, any_item}
use Rattle.json_paths.specs.Reading.{Begins, NoSteps, up_to_quote, left_at}
use Rattle.json_paths.specs.Texts.{is_plain, IsPlaceText, with_dot}
use Rattle.json_paths.proofs.QuoteLemmas.{quote_at}
use Rattle.json_paths.proofs.StepLemmas.{run, plain_begins, no_plain, quoted_begins, no_quoted, place_begins, any_begins, no_item, no_other}

-- ---- after plain bytes

small_go : (x : ℕ) (a b c e : Bool) → (x == 46) ≡ a → (x == 91) ≡ b → (x == 93) ≡ c → (x == 34) ≡ e → not ((a || b || c) || e) ≡ false → x < 128
small_go x true b c e p q r s h = let v = eqb-true x 46 p in omega arith
small_go x false true c e p q r s h = let v = eqb-true x 91 q in omega arith
small_go x false false true e p q r s h = let v = eqb-true x 93 r in omega arith
small_go x false false false true p q r s h = let v = eqb-true x 34 s in omega arith
small_go x false false false false p q r s h = absurd (true≢false h)

small : (x : ℕ) → is_plain x ≡ false → x < 128
small x h = small_go x _ _ _ _ refl refl refl refl h

module _ (d : List ℕ) (start end : ℕ) (within : start ≤ length d) (is : end ≡ start + run (drop start d)) where
  count : run (drop start d) ≡ end - start
  count = omega arith

  behind : drop (run (drop start d)) (drop start d) ≡ drop end d
  behind = drop-drop (run (drop start d)) start d ∙ ap (λ k. drop k d) (sym is)

  behind_one : drop (run (drop start d) + 1) (drop start d) ≡ drop (end + 1) d
  behind_one = let e : start + (run (drop start d) + 1) ≡ end + 1 = omega arith in drop-drop (run (drop start d) + 1) start d ∙ ap (λ k. drop k d) e

  byte : get_or (drop start d) (run (drop start d)) 0 ≡ get_or d end 0
  byte = get_or-drop start d (run (drop start d)) 0 ∙ ap (λ k. get_or d k 0) (sym is)

  pub run_end : end ≤ length d
  run_end = omega (arith, prefix_len-le-length is_plain (drop start d), length-drop start d)

  pub run_boundary : IsCharBoundary d end
  run_boundary = (
    run_end,
    λ inside large.
        let stops = prefix_len_stops is_plain (drop start d) 0 (omega (arith, length-drop start d)) in
        let tiny = small (get_or d end 0) (ap is_plain (sym byte) ∙ stops) in omega (arith, tiny),
  )

  pub name_found : (k : List ℕ) → k ≡ take (end - start) (drop start d) → start < end → Begins (46 ∷ drop start d) (exactly (name k) ∷ []) (drop end d)
  name_found k e some =
      subst (λ r. Begins (46 ∷ drop start d) (exactly (name k) ∷ []) r) behind
      (subst (λ l. Begins (46 ∷ drop start d) (exactly (name l) ∷ []) (drop (run (drop start d)) (drop start d))) (ap (λ n. take n (drop start d)) count ∙ sym e)
      (plain_begins (drop start d) (omega arith)))

  pub no_name : end ≡ start → get_or d start 0 ≢ 34 → NoSteps (46 ∷ drop start d)
  no_name e q =
      let first : get_or (drop start d) 0 0 ≡ get_or d start 0 = get_or-drop start d 0 0 ∙ ap (λ k. get_or d k 0) (add-zero start) in
      no_plain (drop start d) (omega arith) (λ z. q (sym first ∙ z))

  pub place_found : (i : ℕ) → IsPlaceText (take (end - start) (drop start d)) i → end < length d → get_or d end 0 ≡ 93 → Begins (91 ∷ drop start d) (exactly (place i) ∷ []) (drop (end + 1) d)
  place_found i p inside closes =
      subst (λ r. Begins (91 ∷ drop start d) (exactly (place i) ∷ []) r) behind_one
      (place_begins (drop start d) i (subst (λ n. IsPlaceText (take n (drop start d)) i) (sym count) p) (omega (arith, length-drop start d)) (byte ∙ closes))

  pub any_found : end ≡ start → end < length d → get_or d end 0 ≡ 93 → Begins (91 ∷ drop start d) (any_item ∷ []) (drop (end + 1) d)
  any_found e inside closes =
      subst (λ r. Begins (91 ∷ drop start d) (any_item ∷ []) r) behind_one (any_begins (drop start d) (omega (arith, length-drop start d)) (byte ∙ closes) (omega arith))

  pub item_open : (end ≡ length d) ⊎ (get_or d end 0 ≢ 93) → NoSteps (91 ∷ drop start d)
  item_open (inl e) = no_item (drop start d) (λ inside closes. let no : ⊥ = omega (arith, length-drop start d) in absurd no)
  item_open (inr n) = no_item (drop start d) (λ inside closes. absurd (n (sym byte ∙ closes)))

  pub no_place : (end ≡ start → ⊥) → ((i : ℕ) → IsPlaceText (take (end - start) (drop start d)) i → ⊥) → NoSteps (91 ∷ drop start d)
  no_place some fails = no_item (drop start d) (λ inside closes. (omega (arith, some), λ i p. fails i (subst (λ n. IsPlaceText (take n (drop start d)) i) count p)))

-- ---- after quotes

record EndsAt (o : Option ℕ) (start end : ℕ) : Type 0 where
  pub n : ℕ
  pub found : o ≡ Some n
  pub is : end ≡ start + 2 + n

ends_at : (o : Option ℕ) (start end : ℕ) → Some end ≡ option_map (λ n. start + 2 + n) o → EndsAt o start end
ends_at None start end e = absurd (cc)
ends_at (Some n) start end e = record { n = n; found = refl; is = cc }

ends_not : (o : Option ℕ) (start : ℕ) → None ≡ option_map (λ n. start + 2 + n) o → o ≡ None
ends_not None start e = refl
ends_not (Some n) start e = absurd (cc)

module _ (d : List ℕ) (start : ℕ) (within : start < length d) (opens : get_or d start 0 ≡ 34) where
  opened : drop start d ≡ 34 ∷ drop (start + 1) d
  opened = drop_more d start 0 within ∙ ap (λ x. x ∷ drop (start + 1) d) opens

  pub unclosed : None ≡ option_map (λ n. start + 2 + n) (up_to_quote false (drop (start + 1) d)) → NoSteps (46 ∷ drop start d)
  unclosed e =
      let none = ends_not (up_to_quote false (drop (start + 1) d)) start e in
      subst (λ l. NoSteps (46 ∷ l)) (sym opened) (no_quoted (drop (start + 1) d) (λ n k f _. let no : None ≡ Some n = sym none ∙ f in absurd (cc)))

  module _ (end : ℕ) (is : Some end ≡ option_map (λ n. start + 2 + n) (up_to_quote false (drop (start + 1) d))) where
    ending : EndsAt (up_to_quote false (drop (start + 1) d)) start end
    ending = ends_at (up_to_quote false (drop (start + 1) d)) start end is

    pub quote_end : (start < end) × (end ≤ length d)
    quote_end =
        let w = quote_at (drop (start + 1) d) false ending.n ending.found in
        let e = ending.is in (omega arith, omega (arith, w.within, length-drop (start + 1) d))

    pub quote_boundary : IsUtf8 d → IsCharBoundary d end
    quote_boundary u =
        let w = quote_at (drop (start + 1) d) false ending.n ending.found in
        let there : get_or d (start + 1 + ending.n) 0 ≡ 34 = sym (get_or-drop (start + 1) d ending.n 0) ∙ w.byte in
        let e : start + 1 + ending.n + 1 ≡ end = omega (arith, ending.is) in
        subst (IsCharBoundary d) e (IsCharBoundary-after_ascii d (start + 1 + ending.n) u (omega (arith, w.within, length-drop (start + 1) d)) (omega arith))

    written : take (end - start) (drop start d) ≡ 34 ∷ take (ending.n + 1) (drop (start + 1) d)
    written = let e : end - start ≡ suc (ending.n + 1) = omega (arith, ending.is) in ap (λ m. take m (drop start d)) e ∙ ap (take (suc (ending.n + 1))) opened

    pub quoted_found : (k : List ℕ) → document (take (end - start) (drop start d)) ≡ Some (string k) → Begins (46 ∷ drop start d) (exactly (name k) ∷ []) (drop end d)
    quoted_found k e =
        let e' : start + 1 + (ending.n + 1) ≡ end = omega (arith, ending.is) in
        subst (λ l. Begins (46 ∷ l) (exactly (name k) ∷ []) (drop end d)) (sym opened)
        (subst (λ r. Begins (46 ∷ 34 ∷ drop (start + 1) d) (exactly (name k) ∷ []) r) (drop-drop (ending.n + 1) (start + 1) d ∙ ap (λ m. drop m d) e')
        (quoted_begins (drop (start + 1) d) k ending.n ending.found (ap document (sym written) ∙ e)))

    pub quoted_not : ((k : List ℕ) → document (take (end - start) (drop start d)) ≢ Some (string k)) → NoSteps (46 ∷ drop start d)
    quoted_not fails =
        subst (λ l. NoSteps (46 ∷ l)) (sym opened)
        (no_quoted (drop (start + 1) d) (λ n k f e.
        let same : Some ending.n ≡ Some n = sym ending.found ∙ f in
        let one : ending.n ≡ n = cc in
        fails k (ap document (written ∙ ap (λ m. 34 ∷ take (m + 1) (drop (start + 1) d)) one) ∙ e)))

-- ---- at the place of a step

pub left_behind : (d : List ℕ) (start : ℕ) → 0 < start → left_at d start ≡ drop start d
left_behind d start h = ap (λ b. cond b (with_dot d) (drop start d)) (ne_eqb start 0 (λ z. omega arith))

first_other : (d : List ℕ) → 0 < length d → is_plain (get_or d 0 0) ≡ false → with_dot d ≡ d
first_other [] h e = refl
first_other (x ∷ xs) h e = ap (λ b. cond b (46 ∷ x ∷ xs) (x ∷ xs)) e

pub left_other : (d : List ℕ) (start x : ℕ) → start < length d → get_or d start 0 ≡ x → (0 < start) ⊎ (is_plain x ≡ false) → left_at d start ≡ x ∷ drop (start + 1) d
left_other d start x h e (inl some) = left_behind d start some ∙ drop_more d start 0 h ∙ ap (λ y. y ∷ drop (start + 1) d) e
left_other d zero x h e (inr p) = first_other d h (ap is_plain e ∙ p) ∙ drop_more d 0 0 h ∙ ap (λ y. y ∷ drop 1 d) e
left_other d (suc start) x h e (inr p) = left_behind d (suc start) (omega arith) ∙ drop_more d (suc start) 0 h ∙ ap (λ y. y ∷ drop (suc start + 1) d) e

pub left_plain : (d : List ℕ) → 0 < length d → is_plain (get_or d 0 0) ≡ true → left_at d 0 ≡ 46 ∷ drop 0 d
left_plain [] h e = let no : ⊥ = omega arith in absurd no
left_plain (x ∷ xs) h e = ap (λ b. cond b (46 ∷ x ∷ xs) (x ∷ xs)) e

pub no_step : (d : List ℕ) (start : ℕ) → start < length d → get_or d start 0 ≢ 46 → get_or d start 0 ≢ 91 → (0 < start) ⊎ (is_plain (get_or d start 0) ≡ false) → NoSteps (left_at d start)
no_step d start h dot bracket other = subst NoSteps (sym (left_other d start _ h refl other)) (no_other (get_or d start 0) (drop (start + 1) d) dot bracket)
