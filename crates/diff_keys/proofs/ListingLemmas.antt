-- Rows that are listed one after another.
use Rattle.std.proofs.Common.{◌≡◌, ◌<◌, ◌↔◌, ℕ, suc, Bool, true, false, List, [], ◌∷◌, ◌++◌, Option, Some, None, length, get_or, take, set, replicate, arith, ap, sym, ◌∙◌, refl, ◌⊎◌, inl, inr, ◌≢◌}
use Rattle.std.proofs.lemmas.Bool.{cases_eq}
use Rattle.std.proofs.lemmas.Grind.{common_steps}
use Rattle.std.proofs.lemmas.List.{get_or_append_left, get_or_push, get_or-set_same, get_or-set_other, get_or-replicate, length-set}
use Rattle.std.proofs.lemmas.List.Elements.{Contains-push, Contains-push_cases, Contains-append_left}
use Rattle.std.specs.List.{Contains}
use Rattle.std.specs.Prelude.{slice_index}
use Rattle.diff_keys.specs.Listing.{AreFlags, IsOther, IsUnset, ListsFound}
use Rattle.diff_keys.specs.RisingLaws.{rising_push}

pub no_pairs : (found : List (Option ℕ)) → ListsFound found 0 [] []
no_pairs found = record {
  one_length = refl;
  pair = λ k h. absurd (omega arith);
  each = λ i j h e. absurd (omega arith);
  in_order = λ k h. absurd (omega arith);
}

pub pair_listed : (found : List (Option ℕ)) (n m j : ℕ) (ls rs : List ℕ) → ListsFound found n ls rs → get_or found n None ≡ Some j → m ≡ suc n
    → ListsFound found m (ls ++ n ∷ []) (rs ++ j ∷ [])
pair_listed found n m j ls rs h some e = rw e (record {
  one_length = grind (arith, common_steps, h.one_length);
  pair = λ k within. pair k (cases_eq k (length ls)) (grind (arith, common_steps, within));
  each = λ i k within is. each i k (cases_eq i n) within is;
  in_order = rising_push ls n (λ k within. (h.pair k within).0) h.in_order;
})
  where
    l_end : slice_index (ls ++ n ∷ []) (length ls) ≡ n
    l_end = get_or_push ls n 0 (length ls) refl

    r_end : slice_index (rs ++ j ∷ []) (length ls) ≡ j
    r_end = get_or_push rs j 0 (length ls) (sym h.one_length)

    pair : (k : ℕ) → (k ≡ length ls) ⊎ (k ≢ length ls) → k < suc (length ls)
        → (slice_index (ls ++ n ∷ []) k < suc n) × (get_or found (slice_index (ls ++ n ∷ []) k) None ≡ Some (slice_index (rs ++ j ∷ []) k))
    pair k (inl here) within = rw (here, l_end, r_end) (omega arith, some)
    pair k (inr apart) within =
        let l_old : slice_index (ls ++ n ∷ []) k ≡ slice_index ls k = get_or_append_left ls (n ∷ []) 0 k (omega arith) in
        let r_old : slice_index (rs ++ j ∷ []) k ≡ slice_index rs k = get_or_append_left rs (j ∷ []) 0 k (omega (arith, h.one_length)) in
        let old : (slice_index ls k < n) × (get_or found (slice_index ls k) None ≡ Some (slice_index rs k)) = h.pair k (omega arith) in
        rw (l_old, r_old) (omega (arith, old.0), old.1)

    each : (i k : ℕ) → (i ≡ n) ⊎ (i ≢ n) → i < suc n → get_or found i None ≡ Some k
        → (t : ℕ) × (t < length (ls ++ n ∷ [])) × (slice_index (ls ++ n ∷ []) t ≡ i) × (slice_index (rs ++ j ∷ []) t ≡ k)
    each i k (inl here) within is =
        let same : Some j ≡ Some k = sym some ∙ (ap (λ p. get_or found p None) (sym here) ∙ is) in
        (length ls, grind (arith, common_steps), l_end ∙ sym here, r_end ∙ cc)
    each i k (inr apart) within is =
        let (t, inside, l, r) = h.each i k (omega arith) is in
        (t, grind (arith, common_steps, inside), get_or_append_left ls (n ∷ []) 0 t inside ∙ l, get_or_append_left rs (j ∷ []) 0 t (omega (arith, inside, h.one_length)) ∙ r)

pub pair_passed : (found : List (Option ℕ)) (n m : ℕ) (ls rs : List ℕ) → ListsFound found n ls rs → get_or found n None ≡ None → m ≡ suc n → ListsFound found m ls rs
pair_passed found n m ls rs h none e = rw e (record {
  one_length = h.one_length;
  pair = λ k within. let old : (slice_index ls k < n) × (get_or found (slice_index ls k) None ≡ Some (slice_index rs k)) = h.pair k within in (omega (arith, old.0), old.1);
  each = λ i k within is. each i k (cases_eq i n) within is;
  in_order = h.in_order;
})
  where
    each : (i k : ℕ) → (i ≡ n) ⊎ (i ≢ n) → i < suc n → get_or found i None ≡ Some k → (t : ℕ) × (t < length ls) × (slice_index ls t ≡ i) × (slice_index rs t ≡ k)
    each i k (inl here) within is = absurd (let clash : None ≡ Some k = sym none ∙ (ap (λ p. get_or found p None) (sym here) ∙ is) in cc)
    each i k (inr apart) within is = h.each i k (omega arith) is

-- the flags of the first k listed numbers are set
pub record AreSet (rows : List ℕ) (n k : ℕ) (flags : List Bool) : Type 0 where
  pub count : length flags ≡ n
  pub set : (j : ℕ) → j < n → (get_or flags j false ≡ true) ↔ Contains (take k rows) j

pub none_set : (rows : List ℕ) (n : ℕ) (flags : List Bool) → flags ≡ replicate n false → AreSet rows n 0 flags
none_set rows n flags e = rw e (record {
  count = grind (arith, common_steps);
  set = λ j h. (
    λ is. absurd (let clash : false ≡ true = sym (get_or-replicate n j false false h) ∙ is in cc),
    λ there. absurd (let (k, inside, is) = there in omega (arith, inside)),
  );
})

pub one_set : (rows : List ℕ) (n k m : ℕ) (flags : List Bool) → AreSet rows n k flags → k < length rows → slice_index rows k < n → m ≡ suc k
    → AreSet rows n m (set flags (slice_index rows k) true)
one_set rows n k m flags h within below e = rw e (record {
  count = length-set flags (slice_index rows k) true ∙ h.count;
  set = λ j inside. rw grown (is_set j inside (cases_eq j (slice_index rows k)));
})
  where
    grown : take (suc k) rows ≡ take k rows ++ slice_index rows k ∷ []
    grown = grind (arith, common_steps, within)

    is_set : (j : ℕ) → j < n → (j ≡ slice_index rows k) ⊎ (j ≢ slice_index rows k)
        → (get_or (set flags (slice_index rows k) true) j false ≡ true) ↔ Contains (take k rows ++ slice_index rows k ∷ []) j
    is_set j inside (inl here) = (
      λ _. rw here (Contains-push (take k rows) (slice_index rows k)),
      λ _. rw here (get_or-set_same flags (slice_index rows k) true false (omega (arith, below, h.count))),
    )
    is_set j inside (inr apart) =
        let same : get_or (set flags (slice_index rows k) true) j false ≡ get_or flags j false = get_or-set_other flags (slice_index rows k) j true false apart in (
          λ is. Contains-append_left (take k rows) (slice_index rows k ∷ []) j ((h.set j inside).0 (sym same ∙ is)),
          λ there. same ∙ (h.set j inside).1 (elim (Contains-push_cases (take k rows) (slice_index rows k) j there) [
            | inl old ↦ old
            | inr is ↦ absurd (apart (sym is))
          ]),
        )

pub all_set : (rows : List ℕ) (n k : ℕ) (flags : List Bool) → AreSet rows n k flags → k ≡ length rows → AreFlags rows n flags
all_set rows n k flags h e =
    let whole : take k rows ≡ rows = grind (arith, common_steps, e) in
    record { count = h.count; set = λ j inside. rw whole at (h.set j inside) }

-- a flag that is not set is of a number that is not listed
pub unset_others : (rows : List ℕ) (n : ℕ) (flags : List Bool) → AreFlags rows n flags → (i : ℕ) → i < n → IsUnset flags i ↔ IsOther rows i
unset_others rows n flags h i inside = at (get_or flags i false) refl
  where
    at : (b : Bool) → get_or flags i false ≡ b → IsUnset flags i ↔ IsOther rows i
    at true e = (
      λ unset. absurd (let clash : true ≡ false = sym e ∙ unset in cc),
      λ other. absurd (other ((h.set i inside).0 e)),
    )
    at false e = (
      λ unset there. absurd (let clash : false ≡ true = sym e ∙ (h.set i inside).1 there in cc),
      λ other. e,
    )
