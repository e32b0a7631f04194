-- The path of each difference leads to its parts.
use Rattle.std.proofs.Common.{◌≡◌, ℕ, suc, ◌+◌, Bool, true, false, if◌then◌else◌, List, [], ◌∷◌, ◌++◌, map, Option, Some, None, IfSome, option_and_then, inl, inr, refl, ap, ◌∙◌, subst, arith}
use Rattle.std.proofs.lemmas.List.Elements.{All-cons}
use Rattle.std.specs.List.{All, AllByRecursion}
use Rattle.json.specs.Find.{get, at, get_member, get_item}
use Rattle.json.specs.Json.{Json, array, object, Items, no_items, item, Members, no_members, member}
use Rattle.json.specs.Strict.{keys, AreDistinct, HasUniqueKeys, ItemsHaveUniqueKeys, MembersHaveUniqueKeys}
use Rattle.json_normal.specs.Same.{HasMember}
use Rattle.json_paths.specs.Paths.{Step, name, place, step_into, part_at}
use Rattle.json_changes.specs.Differences.{Difference, inside, apart, alone_items, added_member, added_members, beside, differences, is_same_leaf, item_differences, member_differences, only_left, only_right}
use Rattle.json_changes.specs.Laws.{LeadsToParts}
use Rattle.json_changes.proofs.FoundLemmas.{unique_found}
use Rattle.json_changes.proofs.NameLemmas.{found_is}

zero_add : (m : ℕ) → 0 + m ≡ m
zero_add m = omega arith

abbrev Lead : Json → Json → List Difference → Type 0
Lead j k ds = AllByRecursion (LeadsToParts j k) ds

lead_both : (j k : Json) (ds es : List Difference) → Lead j k ds → Lead j k es → Lead j k (ds ++ es)
lead_both j k [] es h g = g
lead_both j k (d ∷ ds) es h g = (h.0, lead_both j k ds es h.1 g)

-- from two parts to the values that they stand in
lead_inside : (a b j k : Json) (s : Step) → step_into s a ≡ Some j → step_into s b ≡ Some k → (ds : List Difference) → Lead j k ds → Lead a b (map (inside s) ds)
lead_inside a b j k s p q [] h = tt
lead_inside a b j k s p q (d ∷ ds) h = (
  record { left = ap (option_and_then (part_at d.path)) p ∙ h.0.left; right = ap (option_and_then (part_at d.path)) q ∙ h.0.right },
  lead_inside a b j k s p q ds h.1,
)

lead_left : (a b j : Json) (s : Step) → step_into s a ≡ Some j → step_into s b ≡ None → LeadsToParts a b (inside s (only_left j))
lead_left a b j s p q = record { left = ap (option_and_then (part_at [])) p; right = ap (option_and_then (part_at [])) q }

lead_right : (a b k : Json) (s : Step) → step_into s a ≡ None → step_into s b ≡ Some k → LeadsToParts a b (inside s (only_right k))
lead_right a b k s p q = record { left = ap (option_and_then (part_at [])) p; right = ap (option_and_then (part_at [])) q }

lead_leaf : (j k : Json) (b : Bool) → Lead j k (if b then [] else apart (Some j) (Some k) ∷ [])
lead_leaf j k true = tt
lead_leaf j k false = (record { left = refl; right = refl }, tt)

-- the items of a value from a place on
abbrev ItemsFrom : Json → ℕ → Items → Type 0
ItemsFrom a n js = (m : ℕ) → at (n + m) a ≡ get_item m js

first_item : (a : Json) (n : ℕ) (j : Json) (js : Items) → ItemsFrom a n (item j js) → at n a ≡ Some j
first_item a n j js f = let none : n + 0 ≡ n = omega arith in subst (λ (i : ℕ). at i a ≡ Some j) none (f 0)

next_items : (a : Json) (n : ℕ) (j : Json) (js : Items) → ItemsFrom a n (item j js) → ItemsFrom a (suc n) js
next_items a n j js f m = let up : n + suc m ≡ suc n + m = omega arith in subst (λ (i : ℕ). at i a ≡ get_item m js) up (f (suc m))

none_here : (a : Json) (n : ℕ) → ItemsFrom a n no_items → at n a ≡ None
none_here a n f = let none : n + 0 ≡ n = omega arith in subst (λ (i : ℕ). at i a ≡ None) none (f 0)

none_next : (a : Json) (n : ℕ) → ItemsFrom a n no_items → ItemsFrom a (suc n) no_items
none_next a n f m = let up : n + suc m ≡ suc n + m = omega arith in subst (λ (i : ℕ). at i a ≡ None) up (f (suc m))

lead_left_items : (a b : Json) (n : ℕ) (js : Items) → ItemsFrom a n js → ItemsFrom b n no_items → Lead a b (alone_items only_left n js)
lead_left_items a b n no_items f g = tt
lead_left_items a b n (item j js) f g = (lead_left a b j (place n) (first_item a n j js f) (none_here b n g), lead_left_items a b (suc n) js (next_items a n j js f) (none_next b n g))

lead_right_items : (a b : Json) (n : ℕ) (ks : Items) → ItemsFrom a n no_items → ItemsFrom b n ks → Lead a b (alone_items only_right n ks)
lead_right_items a b n no_items f g = tt
lead_right_items a b n (item k ks) f g = (lead_right a b k (place n) (none_here a n f) (first_item b n k ks g), lead_right_items a b (suc n) ks (none_next a n f) (next_items b n k ks g))

-- members of a value, which are found by their names
abbrev MembersOf : Json → Members → Type 0
MembersOf a ms = (k : List ℕ) (j : Json) → HasMember k (λ i. i ≡ j) ms → get k a ≡ Some j

-- the names of a value are found in these members
abbrev NamesOf : Json → Members → Type 0
NamesOf a ms = (k : List ℕ) → get k a ≡ get_member k ms

found_one : (ms : Members) → AreDistinct (keys ms) → MembersOf (object ms) ms
found_one ms u k j h = let found = found_is k (λ i. i ≡ j) ms u h in found.is ∙ ap Some found.holds

lead_added : (a b : Json) (k : List ℕ) (i : Json) (o : Option Json) → get k a ≡ o → get k b ≡ Some i → Lead a b (added_member k i o)
lead_added a b k i None p q = (lead_right a b i (name k) p q, tt)
lead_added a b k i (Some j) p q = tt

lead_added_members : (a b : Json) (ms ns : Members) → NamesOf a ms → MembersOf b ns → Lead a b (added_members ms ns)
lead_added_members a b ms no_members f g = tt
lead_added_members a b ms (member k i ns) f g =
    lead_both a b (added_member k i (get_member k ms)) (added_members ms ns) (lead_added a b k i (get_member k ms) (f k) (g k i (inl (refl, refl))))
    (lead_added_members a b ms ns f (λ l j h. g l j (inr h)))

lead_beside : (a b j : Json) (k : List ℕ) (between : Json → List Difference) → ((i : Json) → HasUniqueKeys i → Lead j i (between i))
    → (o : Option Json) → IfSome o HasUniqueKeys → get k a ≡ Some j → get k b ≡ o → Lead a b (map (inside (name k)) (beside j between o))
lead_beside a b j k between f None u p q = (lead_left a b j (name k) p q, tt)
lead_beside a b j k between f (Some i) u p q = lead_inside a b j i (name k) p q (between i) (f i u)

mutual
  lead : (j k : Json) → HasUniqueKeys j → HasUniqueKeys k → Lead j k (differences j k)
  lead (array js) (array ks) u v = lead_items (array js) (array ks) 0 js ks (λ m. ap (λ i. get_item i js) (zero_add m)) (λ m. ap (λ i. get_item i ks) (zero_add m)) u v
  lead (object ms) (object ns) u v =
      lead_both (object ms) (object ns) (member_differences ms ns) (added_members ms ns) (lead_members (object ms) (object ns) ms ns (found_one ms u.0) (λ k. refl) u.1 v.1)
      (lead_added_members (object ms) (object ns) ms ns (λ k. refl) (found_one ns v.0))
  lead j k u v = lead_leaf j k (is_same_leaf j k)

  lead_items : (a b : Json) (n : ℕ) (js ks : Items) → ItemsFrom a n js → ItemsFrom b n ks → ItemsHaveUniqueKeys js → ItemsHaveUniqueKeys ks → Lead a b (item_differences n js ks)
  lead_items a b n no_items no_items f g u v = tt
  lead_items a b n no_items (item k ks) f g u v = lead_right_items a b n (item k ks) f g
  lead_items a b n (item j js) no_items f g u v = lead_both a b (alone_items only_left n (item j js)) [] (lead_left_items a b n (item j js) f g) tt
  lead_items a b n (item j js) (item k ks) f g u v =
      lead_both a b (map (inside (place n)) (differences j k)) (item_differences (suc n) js ks)
      (lead_inside a b j k (place n) (first_item a n j js f) (first_item b n k ks g) (differences j k) (lead j k u.0 v.0))
      (lead_items a b (suc n) js ks (next_items a n j js f) (next_items b n k ks g) u.1 v.1)

  lead_members : (a b : Json) (ms ns : Members) → MembersOf a ms → NamesOf b ns → MembersHaveUniqueKeys ms → MembersHaveUniqueKeys ns → Lead a b (member_differences ms ns)
  lead_members a b no_members ns f g u v = tt
  lead_members a b (member k j ms) ns f g u v =
      lead_both a b (map (inside (name k)) (beside j (λ i. differences j i) (get_member k ns))) (member_differences ms ns)
      (lead_beside a b j k (λ i. differences j i) (λ i w. lead j i u.0 w) (get_member k ns) (unique_found k ns v) (f k j (inl (refl, refl))) (g k))
      (lead_members a b ms ns (λ l i h. f l i (inr h)) g u.1 v)

each : (P : Difference → Type 0) (ds : List Difference) → AllByRecursion P ds → All P ds
each P [] h = λ k d l. absurd (omega arith)
each P (d ∷ ds) h = All-cons P d ds h.0 (each P ds h.1)

pub paths_lead : (j k : Json) → HasUniqueKeys j → HasUniqueKeys k → All (LeadsToParts j k) (differences j k)
paths_lead j k u v = each (LeadsToParts j k) (differences j k) (lead j k u v)
