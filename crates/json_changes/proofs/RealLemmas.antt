-- The parts of each difference are not the same, and are the smallest.
use Rattle.std.proofs.Common.{◌≡◌, ℕ, suc, Bool, true, false, if◌then◌else◌, List, [], ◌∷◌, ◌++◌, map, Option, Some, None, IfSome, arith}
use Rattle.std.proofs.lemmas.List.Elements.{All-cons}
use Rattle.std.specs.List.{All, AllByRecursion}
use Rattle.json.specs.Find.{get_member}
use Rattle.json.specs.Json.{Json, array, object, Items, no_items, item, Members, no_members, member}
use Rattle.json.specs.Strict.{HasUniqueKeys, ItemsHaveUniqueKeys, MembersHaveUniqueKeys}
use Rattle.json_normal.specs.Same.{AreSame}
use Rattle.json_paths.specs.Paths.{Step, name, place}
use Rattle.json_changes.specs.Differences.{Difference, inside, apart, alone_items, added_member, added_members, beside, differences, is_same_leaf, item_differences, member_differences, only_left, only_right}
use Rattle.json_changes.specs.Laws.{CanGoOn, PartsAreSame}
use Rattle.json_changes.proofs.FoundLemmas.{unique_found}
use Rattle.json_changes.proofs.SameLemmas.{none_values}

abbrev IsReal : Difference → Type 0
IsReal d = (¬ PartsAreSame d.left d.right) × (¬ CanGoOn d.left d.right)

abbrev Real : List Difference → Type 0
Real ds = AllByRecursion IsReal ds

real_both : (ds es : List Difference) → Real ds → Real es → Real (ds ++ es)
real_both [] es h g = g
real_both (d ∷ ds) es h g = (h.0, real_both ds es h.1 g)

real_inside : (s : Step) (ds : List Difference) → Real ds → Real (map (inside s) ds)
real_inside s [] h = tt
real_inside s (d ∷ ds) h = (h.0, real_inside s ds h.1)

real_leaf : (j k : Json) (b : Bool) → ¬ CanGoOn (Some j) (Some k) → (AreSame j k → (if b then [] else apart (Some j) (Some k) ∷ []) ≡ []) → Real (if b then [] else apart (Some j) (Some k) ∷ [])
real_leaf j k true g f = tt
real_leaf j k false g f = ((λ h. let e = f h in cc, g), tt)

real_left : (n : ℕ) (js : Items) → Real (alone_items only_left n js)
real_left n no_items = tt
real_left n (item j js) = ((λ h. h, λ h. h), real_left (suc n) js)

real_right : (n : ℕ) (ks : Items) → Real (alone_items only_right n ks)
real_right n no_items = tt
real_right n (item k ks) = ((λ h. h, λ h. h), real_right (suc n) ks)

real_added : (k : List ℕ) (i : Json) (o : Option Json) → Real (added_member k i o)
real_added k i None = ((λ h. h, λ h. h), tt)
real_added k i (Some j) = tt

real_added_members : (ms ns : Members) → Real (added_members ms ns)
real_added_members ms no_members = tt
real_added_members ms (member k i ns) = real_both (added_member k i (get_member k ms)) (added_members ms ns) (real_added k i (get_member k ms)) (real_added_members ms ns)

real_beside : (j : Json) (between : Json → List Difference) → ((i : Json) → HasUniqueKeys i → Real (between i)) → (o : Option Json) → IfSome o HasUniqueKeys → Real (beside j between o)
real_beside j between f None u = ((λ h. h, λ h. h), tt)
real_beside j between f (Some i) u = f i u

mutual
  real : (j k : Json) → HasUniqueKeys k → Real (differences j k)
  real (array js) (array ks) v = real_items 0 js ks v
  real (object ms) (object ns) v = real_both (member_differences ms ns) (added_members ms ns) (real_members ms ns v.1) (real_added_members ms ns)
  real j k v = real_leaf j k (is_same_leaf j k) (λ h. h) (none_values j k v)

  real_items : (n : ℕ) (js ks : Items) → ItemsHaveUniqueKeys ks → Real (item_differences n js ks)
  real_items n no_items no_items v = tt
  real_items n no_items (item k ks) v = real_right n (item k ks)
  real_items n (item j js) no_items v = real_both (alone_items only_left n (item j js)) [] (real_left n (item j js)) tt
  real_items n (item j js) (item k ks) v =
      real_both (map (inside (place n)) (differences j k)) (item_differences (suc n) js ks) (real_inside (place n) (differences j k) (real j k v.0)) (real_items (suc n) js ks v.1)

  real_members : (ms ns : Members) → MembersHaveUniqueKeys ns → Real (member_differences ms ns)
  real_members no_members ns v = tt
  real_members (member k j ms) ns v =
      let own : List Difference = beside j (λ i. differences j i) (get_member k ns) in
      real_both (map (inside (name k)) own) (member_differences ms ns) (real_inside (name k) own (real_beside j (λ i. differences j i) (λ i w. real j i w) (get_member k ns) (unique_found k ns v))) (real_members ms ns v)

each : (ds : List Difference) → Real ds → All IsReal ds
each [] h = λ k d l. absurd (omega arith)
each (d ∷ ds) h = All-cons IsReal d ds h.0 (each ds h.1)

pub each_is_real : (j k : Json) → HasUniqueKeys j → HasUniqueKeys k → All (λ d. ¬ PartsAreSame d.left d.right) (differences j k)
each_is_real j k u v = λ i d l. (each (differences j k) (real j k v) i d l).0

pub each_is_smallest : (j k : Json) → HasUniqueKeys j → HasUniqueKeys k → All (λ d. ¬ CanGoOn d.left d.right) (differences j k)
each_is_smallest j k u v = λ i d l. (each (differences j k) (real j k v) i d l).1
