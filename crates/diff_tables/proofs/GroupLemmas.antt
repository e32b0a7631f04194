-- One group more, and the strings of an array whose offsets are the ends.
use Rattle.std.proofs.Common.{◌≡◌, ◌≢◌, ◌<◌, ◌≤◌, ◌+◌, ◌-◌, ℕ, zero, suc, List, [], ◌∷◌, ◌++◌, Option, Some, length, get_or, take, drop, map, arith, ap, sym, ◌∙◌, refl, subst, ◌⊎◌, inl, inr, length-append, add-one}
use Rattle.std.proofs.Math.Seq.{get_or-append_seam, drop-append_seam}
use Rattle.std.proofs.lemmas.Bool.{cases_eq}
use Rattle.std.proofs.lemmas.List.{ext_get_or, get_or_append_left, take-append-le, drop-append-le, take_all, length-drop, map-append}
use Rattle.std.proofs.lemmas.List.FromFn.{get_or-map-range_with_len, length-map-range_with_len}
use Rattle.std.specs.Prelude.{pos}
use Rattle.polars_arrays_bytes.specs.OffsetStrings.{AreGood, IsWithin, place_at, places, row_count, string_between, strings_between}
use Rattle.diff_tables.specs.Groups.{AreGroups}
use Rattle.diff_tables.specs.Strings.{AreStrings}
use Rattle.diff_tables.specs.declared.strings.Strings.{Strings}

pub length_push : {A : Type 0} (xs : List A) (x : A) → length (xs ++ x ∷ []) ≡ suc (length xs)
length_push xs x = length-append xs (x ∷ []) ∙ omega arith

-- the last of a list
at_end : {A : Type 0} (xs : List A) (x d : A) (k : ℕ) → k ≡ length xs → get_or (xs ++ x ∷ []) k d ≡ x
at_end xs x d k e = rw e (get_or-append_seam xs x [] d)

-- a window, after more elements
same_window : {A : Type 0} (xs ys : List A) (a b : ℕ) → a ≤ b → b ≤ length xs → take (b - a) (drop a (xs ++ ys)) ≡ take (b - a) (drop a xs)
same_window xs ys a b h k =
    rw (drop-append-le a xs ys (omega arith)) (take-append-le (b - a) (drop a xs) ys (omega (arith, length-drop a xs)))

pub no_groups : {A : Type 0} → AreGroups {A = A} (0 ∷ []) [] []
no_groups = record {
  one_more = refl;
  last = refl;
  rise = λ k h. absurd (omega (arith, h));
  group = λ k h. absurd (omega (arith, h));
}

-- one group more
pub groups_push : {A : Type 0} (ends : List ℕ) (elements more : List A) (groups : List (List A)) → AreGroups ends elements groups
    → AreGroups (ends ++ length (elements ++ more) ∷ []) (elements ++ more) (groups ++ more ∷ [])
groups_push {A} ends elements more groups h = record {
  one_more = length_push ends _ ∙ ap suc (h.one_more ∙ sym (length_push groups more));
  last = at_end ends _ 0 _ (length_push groups more ∙ sym h.one_more);
  rise = λ k within. rise k (cases_eq k (length groups)) (omega (arith, length_push groups more));
  group = λ k within. group k (cases_eq k (length groups)) (omega (arith, length_push groups more));
}
  where
    total : length (elements ++ more) ≡ length elements + length more
    total = length-append elements more

    from_old : (k : ℕ) → k < suc (length groups) → get_or (ends ++ length (elements ++ more) ∷ []) k 0 ≡ get_or ends k 0
    from_old k within = get_or_append_left ends (length (elements ++ more) ∷ []) 0 k (omega (arith, h.one_more))

    from_end : (k : ℕ) → k ≡ length groups → get_or (ends ++ length (elements ++ more) ∷ []) k 0 ≡ length elements
    from_end k e = from_old k (omega arith) ∙ rw e h.last

    to_end : (k : ℕ) → k ≡ length groups → get_or (ends ++ length (elements ++ more) ∷ []) (suc k) 0 ≡ length (elements ++ more)
    to_end k e = at_end ends _ 0 (suc k) (ap suc e ∙ sym h.one_more)

    rise : (k : ℕ) → (k ≡ length groups) ⊎ (k ≢ length groups) → k < suc (length groups)
        → (get_or (ends ++ length (elements ++ more) ∷ []) k 0 ≤ get_or (ends ++ length (elements ++ more) ∷ []) (suc k) 0) × (get_or (ends ++ length (elements ++ more) ∷ []) (suc k) 0 ≤ length (elements ++ more))
    rise k (inl e) within = (omega (arith, from_end k e, to_end k e, total), omega (arith, to_end k e))
    rise k (inr apart) within =
        let old : (get_or ends k 0 ≤ get_or ends (suc k) 0) × (get_or ends (suc k) 0 ≤ length elements) = h.rise k (omega arith) in
        (omega (arith, from_old k (omega arith), from_old (suc k) (omega arith), old.0), omega (arith, from_old (suc k) (omega arith), old.1, total))

    group : (k : ℕ) → (k ≡ length groups) ⊎ (k ≢ length groups) → k < suc (length groups)
        → take (get_or (ends ++ length (elements ++ more) ∷ []) (suc k) 0 - get_or (ends ++ length (elements ++ more) ∷ []) k 0) (drop (get_or (ends ++ length (elements ++ more) ∷ []) k 0) (elements ++ more)) ≡ get_or (groups ++ more ∷ []) k []
    group k (inl e) within =
        rw (from_end k e, to_end k e, drop-append_seam elements more) (take_all (length (elements ++ more) - length elements) more (omega (arith, total)) ∙ sym (at_end groups more [] k e))
    group k (inr apart) within =
        let old : (get_or ends k 0 ≤ get_or ends (suc k) 0) × (get_or ends (suc k) 0 ≤ length elements) = h.rise k (omega arith) in
        rw (from_old k (omega arith), from_old (suc k) (omega arith))
        (same_window elements more (get_or ends k 0) (get_or ends (suc k) 0) old.0 old.1 ∙ (h.group k (omega arith) ∙ sym (get_or_append_left groups (more ∷ []) [] k (omega arith))))

-- the first end is 0
pub no_strings : (s : Strings) → s.ends.items ≡ pos 0 ∷ [] → s.far_ends.items ≡ [] → s.bytes.items ≡ [] → AreStrings s []
no_strings s ends far bytes = record { ends = 0 ∷ []; stored = rw (ends, far) refl; groups = rw bytes no_groups }

-- one string more
pub string_pushed : (old new : Strings) (string : List ℕ) (all : List (List ℕ)) → AreStrings old all → new.bytes.items ≡ old.bytes.items ++ string
    → new.ends.items ++ new.far_ends.items ≡ (old.ends.items ++ old.far_ends.items) ++ pos (length (old.bytes.items ++ string)) ∷ []
    → AreStrings new (all ++ string ∷ [])
string_pushed old new string all h bytes ends = record {
  ends = h.ends ++ length (old.bytes.items ++ string) ∷ [];
  stored = ends ∙ (ap (λ l. l ++ pos (length (old.bytes.items ++ string)) ∷ []) h.stored ∙ sym (map-append (λ n. pos n) h.ends (length (old.bytes.items ++ string) ∷ [])));
  groups = rw bytes (groups_push h.ends old.bytes.items string all h.groups);
}

-- the places that ends are
abbrev pub places_of : List ℕ → List (Option ℕ)
places_of ends = places (λ x. x) (map (λ n. pos n) ends)

pub place_end : (ends : List ℕ) (k : ℕ) → k < length ends → place_at (places_of ends) k ≡ Some (get_or ends k 0)
place_end [] k h = absurd (omega (arith, h))
place_end (x ∷ xs) zero h = refl
place_end (x ∷ xs) (suc k) h = place_end xs k (omega (arith, h))

pub length_places : (ends : List ℕ) → length (places_of ends) ≡ length ends
length_places [] = refl
length_places (x ∷ xs) = ap suc (length_places xs)

-- the end after end k
next_end : (ends : List ℕ) (k : ℕ) → k + 1 < length ends → place_at (places_of ends) (k + 1) ≡ Some (get_or ends (suc k) 0)
next_end ends k h = rw add-one (place_end ends (suc k) (omega (arith, h)))

-- how many strings lie between ends
pub count_places : {A : Type 0} (ends : List ℕ) (elements : List A) (all : List (List A)) → AreGroups ends elements all → row_count (places_of ends) ≡ length all
count_places ends elements all h = omega (arith, length_places ends, h.one_more)

-- the strings between the ends are those that were appended
pub strings_are : (ends bytes : List ℕ) (all : List (List ℕ)) → AreGroups ends bytes all → strings_between (places_of ends) bytes ≡ all
strings_are ends bytes all h = ext_get_or [] _ _ (size ∙ count) (λ i within. string i (omega (arith, within, size, count)))
  where
    count : row_count (places_of ends) ≡ length all
    count = count_places ends bytes all h

    size : length (strings_between (places_of ends) bytes) ≡ row_count (places_of ends)
    size = length-map-range_with_len (string_between (places_of ends) bytes) 0 (row_count (places_of ends))

    string : (i : ℕ) → i < length all → get_or (strings_between (places_of ends) bytes) i [] ≡ get_or all i []
    string i within =
        let here : place_at (places_of ends) i ≡ Some (get_or ends i 0) = place_end ends i (omega (arith, h.one_more, within)) in
        let next : place_at (places_of ends) (i + 1) ≡ Some (get_or ends (suc i) 0) = next_end ends i (omega (arith, h.one_more, within)) in
        let there : get_or (strings_between (places_of ends) bytes) i [] ≡ string_between (places_of ends) bytes i =
        get_or-map-range_with_len (string_between (places_of ends) bytes) 0 (row_count (places_of ends)) i i [] (omega (arith, count, within)) (omega arith) in
        there ∙ rw (here, next) (h.group i within)

-- the ends are good offsets
pub ends_good : (ends bytes : List ℕ) (all : List (List ℕ)) → AreGroups ends bytes all → AreGood (length bytes) (places_of ends)
ends_good ends bytes all h = record {
  first = first (cases_eq (length all) 0);
  rows = λ i below.
      let within : i < length all = omega (arith, below, count_places ends bytes all h) in
      let here : place_at (places_of ends) i ≡ Some (get_or ends i 0) = place_end ends i (omega (arith, h.one_more, within)) in
      let next : place_at (places_of ends) (i + 1) ≡ Some (get_or ends (suc i) 0) = next_end ends i (omega (arith, h.one_more, within)) in
      rw (here, next) (h.rise i within);
}
  where
    start : place_at (places_of ends) 0 ≡ Some (get_or ends 0 0)
    start = place_end ends 0 (omega (arith, h.one_more))

    first : (length all ≡ 0) ⊎ (length all ≢ 0) → IsWithin (length bytes) (place_at (places_of ends) 0)
    first (inl none) = rw start (let last : get_or ends 0 0 ≡ length bytes = subst (λ n. get_or ends n 0 ≡ length bytes) none h.last in omega (arith, last))
    first (inr some) = rw start (let rise : (get_or ends 0 0 ≤ get_or ends 1 0) × (get_or ends 1 0 ≤ length bytes) = h.rise 0 (omega (arith, some)) in omega (arith, rise.0, rise.1))
