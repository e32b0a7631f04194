-- There is no difference just where two values are the same.
use Rattle.std.proofs.Common.{◌≡◌, ℕ, suc, ◌↔◌, Bool, true, false, if◌then◌else◌, List, [], ◌∷◌, ◌++◌, map, Option, Some, None, refl, ap, ap₂, ◌∙◌}
use Rattle.std.proofs.lemmas.Slice.Eq.{bytes_eq-Decides}
use Rattle.std.specs.Bool.{⊤}
use Rattle.std.specs.Cmp.{booleans_Decides}
use Rattle.json.specs.Find.{get_member}
use Rattle.json.specs.Json.{Json, null, boolean, number, string, array, object, Items, no_items, item, Members, no_members, member}
use Rattle.json.specs.Strict.{keys, AreDistinct, HasUniqueKeys, ItemsHaveUniqueKeys, MembersHaveUniqueKeys}
use Rattle.json_decimals.proofs.TextLemmas.{texts_tell}
use Rattle.json_decimals.specs.Texts.{normal_number}
use Rattle.json_normal.specs.Same.{HasMember, HaveNamesIn, AreSame, ItemsAreSame, EachIsIn}
use Rattle.json_paths.specs.Paths.{name, place}
use Rattle.json_changes.specs.Differences.{Difference, inside, apart, added_member, added_members, beside, differences, is_same_leaf, item_differences, leaf_differences, member_differences}
use Rattle.json_changes.proofs.NameLemmas.{Found, found_is, has_member, some_found, unique_member}

-- ---- empty lists

both_empty : {A : Type 0} → (xs ys : List A) → xs ++ ys ≡ [] → (xs ≡ []) × (ys ≡ [])
both_empty [] ys e = (refl, e)
both_empty (x ∷ xs) ys e = absurd (cc)

map_empty : {A B : Type 0} → (f : A → B) (xs : List A) → map f xs ≡ [] → xs ≡ []
map_empty f [] e = refl
map_empty f (x ∷ xs) e = absurd (cc)

told_if : (b : Bool) (d : Difference) → (if b then [] else d ∷ []) ≡ [] → b ≡ true
told_if true d e = refl
told_if false d e = absurd (cc)

-- ---- no difference, and so the same

same_leaf : (j k : Json) → leaf_differences j k ≡ [] → is_same_leaf j k ≡ true
same_leaf j k e = told_if (is_same_leaf j k) (apart (Some j) (Some k)) e

found_same : (k : List ℕ) (j : Json) (between : Json → List Difference) (Such : Json → Type 0) → ((i : Json) → between i ≡ [] → Such i)
    → (ns : Members) (o : Option Json) → get_member k ns ≡ o → beside j between o ≡ [] → HasMember k Such ns
found_same k j between Such f ns None is e = absurd (cc)
found_same k j between Such f ns (Some i) is e = has_member k Such ns i is (f i e)

found_name : (k : List ℕ) (i : Json) (ms : Members) (o : Option Json) → get_member k ms ≡ o → added_member k i o ≡ [] → HasMember k (λ _. ⊤) ms
found_name k i ms None is e = absurd (cc)
found_name k i ms (Some j) is e = has_member k (λ _. ⊤) ms j is tt

names_in : (ms ns : Members) → added_members ms ns ≡ [] → HaveNamesIn ns ms
names_in ms no_members e = tt
names_in ms (member k i ns) e = let parts = both_empty (added_member k i (get_member k ms)) (added_members ms ns) e in (found_name k i ms (get_member k ms) refl parts.0, names_in ms ns parts.1)

mutual
  pub same_values : (j k : Json) → differences j k ≡ [] → AreSame j k
  same_values null null e = tt
  same_values (boolean a) (boolean b) e = (booleans_Decides a b).0 (same_leaf (boolean a) (boolean b) e)
  same_values (number s) (number t) e = (texts_tell s t).1 ((bytes_eq-Decides (normal_number s) (normal_number t)).0 (same_leaf (number s) (number t) e))
  same_values (string s) (string t) e = (bytes_eq-Decides s t).0 (same_leaf (string s) (string t) e)
  same_values (array js) (array ks) e = same_items 0 js ks e
  same_values (object ms) (object ns) e = let parts = both_empty (member_differences ms ns) (added_members ms ns) e in (same_members ms ns parts.0, names_in ms ns parts.1)
  same_values j k e = cc

  same_items : (n : ℕ) (js ks : Items) → item_differences n js ks ≡ [] → ItemsAreSame js ks
  same_items n no_items no_items e = tt
  same_items n (item j js) (item k ks) e =
      let parts = both_empty (map (inside (place n)) (differences j k)) (item_differences (suc n) js ks) e in (same_values j k (map_empty (inside (place n)) (differences j k) parts.0), same_items (suc n) js ks parts.1)
  same_items n js ks e = cc

  same_members : (ms ns : Members) → member_differences ms ns ≡ [] → EachIsIn ms ns
  same_members no_members ns e = tt
  same_members (member k j ms) ns e =
      let own : List Difference = beside j (λ i. differences j i) (get_member k ns) in
      let parts = both_empty (map (inside (name k)) own) (member_differences ms ns) e in
      (found_same k j (λ i. differences j i) (λ i. AreSame j i) (λ i h. same_values j i h) ns (get_member k ns) refl (map_empty (inside (name k)) own parts.0), same_members ms ns parts.1)

-- ---- the same, and so no difference

none_if : (b : Bool) (d : Difference) → b ≡ true → (if b then [] else d ∷ []) ≡ []
none_if true d e = refl
none_if false d e = absurd (cc)

no_leaf : (j k : Json) → is_same_leaf j k ≡ true → leaf_differences j k ≡ []
no_leaf j k e = none_if (is_same_leaf j k) (apart (Some j) (Some k)) e

none_added : (ms ns : Members) → HaveNamesIn ns ms → added_members ms ns ≡ []
none_added ms no_members h = refl
none_added ms (member k i ns) h = let found = some_found k (λ _. ⊤) ms h.0 in ap₂ (λ o ds. added_member k i o ++ ds) found.1 (none_added ms ns h.1)

mutual
  pub none_values : (j k : Json) → HasUniqueKeys k → AreSame j k → differences j k ≡ []
  none_values null null u h = refl
  none_values (boolean a) (boolean b) u h = no_leaf (boolean a) (boolean b) ((booleans_Decides a b).1 h)
  none_values (number s) (number t) u h = no_leaf (number s) (number t) ((bytes_eq-Decides (normal_number s) (normal_number t)).1 ((texts_tell s t).0 h))
  none_values (string s) (string t) u h = no_leaf (string s) (string t) ((bytes_eq-Decides s t).1 h)
  none_values (array js) (array ks) u h = none_items 0 js ks u h
  none_values (object ms) (object ns) u h = ap₂ (λ ds es. ds ++ es) (none_members ms ns u.0 u.1 h.0) (none_added ms ns h.1)
  none_values j k u h = absurd h

  none_items : (n : ℕ) (js ks : Items) → ItemsHaveUniqueKeys ks → ItemsAreSame js ks → item_differences n js ks ≡ []
  none_items n no_items no_items u h = refl
  none_items n (item j js) (item k ks) u h = ap₂ (λ ds es. map (inside (place n)) ds ++ es) (none_values j k u.0 h.0) (none_items (suc n) js ks u.1 h.1)
  none_items n js ks u h = absurd h

  none_members : (ms ns : Members) → AreDistinct (keys ns) → MembersHaveUniqueKeys ns → EachIsIn ms ns → member_differences ms ns ≡ []
  none_members no_members ns d u h = refl
  none_members (member k j ms) ns d u h =
      let found : Found k (λ i. HasUniqueKeys i × AreSame j i) ns = found_is k (λ i. HasUniqueKeys i × AreSame j i) ns d (unique_member k (λ i. AreSame j i) ns u h.0) in
      let own : beside j (λ i. differences j i) (get_member k ns) ≡ [] = ap (λ o. beside j (λ i. differences j i) o) found.is ∙ none_values j found.value found.holds.0 found.holds.1 in
      ap₂ (λ ds es. map (inside (name k)) ds ++ es) own (none_members ms ns d u h.1)

pub none_where_same : (j k : Json) → HasUniqueKeys j → HasUniqueKeys k → (differences j k ≡ []) ↔ AreSame j k
none_where_same j k u v = (λ e. same_values j k e, λ h. none_values j k v h)
