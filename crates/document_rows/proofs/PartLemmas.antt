-- What holds of a value and of its parts.
use Rattle.std.proofs.Common.{◌≡◌, ℕ, zero, suc, Bool, true, false, List, [], ◌∷◌, Option, Some, None, refl, subst, sym}
use Rattle.std.proofs.lemmas.Option.{same_Some}
use Rattle.std.specs.Prelude.{cond, option_and_then}
use Rattle.std.specs.Str.{bytes_eq}
use Rattle.json.specs.Find.{get_item, get_member, later_or}
use Rattle.json.specs.Json.{Json, null, boolean, number, string, array, object, Items, no_items, item, Members, no_members, member}
use Rattle.json.specs.Strict.{HasUniqueKeys, ItemsHaveUniqueKeys, MembersHaveUniqueKeys}
use Rattle.json_normal.specs.Narrow.{HasNarrowNumbers, ItemsHaveNarrowNumbers, MembersHaveNarrowNumbers}
use Rattle.json_paths.specs.Paths.{Path, Step, name, place, part_at, step_into}

-- what holds of a value holds of its items and of its members' values
pub record IsInherited (P : Json → Type 0) (OfItems : Items → Type 0) (OfMembers : Members → Type 0) : Type 0 where
  pub in_array : (js : Items) → P (array js) → OfItems js
  pub in_items : (j : Json) (js : Items) → OfItems (item j js) → P j × OfItems js
  pub in_object : (ms : Members) → P (object ms) → OfMembers ms
  pub in_members : (k : List ℕ) (j : Json) (ms : Members) → OfMembers (member k j ms) → P j × OfMembers ms

found_item : {P : Json → Type 0} {Q : Items → Type 0} {R : Members → Type 0} → IsInherited P Q R → (n : ℕ) (js : Items) (p : Json) → Q js → get_item n js ≡ Some p → P p
found_item h n no_items p q e = cc e
found_item {P} h zero (item j js) p q e = subst P (same_Some j p e) (h.in_items j js q).0
found_item h (suc n) (item j js) p q e = found_item h n js p (h.in_items j js q).1 e

found_member : {P : Json → Type 0} {Q : Items → Type 0} {R : Members → Type 0} → IsInherited P Q R → (k : List ℕ) (ms : Members) (p : Json) → R ms → get_member k ms ≡ Some p → P p
found_member h k no_members p r e = cc e
found_member {P} h k (member l j ms) p r e =
    by (get_member k ms) (bytes_eq l k) (λ x is. found_member h k ms x (h.in_members l j ms r).1 is) (h.in_members l j ms r).0 e
  where
    by : (o : Option Json) (b : Bool) → ((x : Json) → o ≡ Some x → P x) → P j → later_or o (cond b (Some j) None) ≡ Some p → P p
    by (Some x) b later mine e = later p e
    by None true later mine e = subst P (same_Some j p e) mine
    by None false later mine e = cc e

found_step : {P : Json → Type 0} {Q : Items → Type 0} {R : Members → Type 0} → IsInherited P Q R → (s : Step) (j p : Json) → P j → step_into s j ≡ Some p → P p
found_step h (name k) null p holds e = cc e
found_step h (name k) (boolean b) p holds e = cc e
found_step h (name k) (number s) p holds e = cc e
found_step h (name k) (string s) p holds e = cc e
found_step h (name k) (array js) p holds e = cc e
found_step h (name k) (object ms) p holds e = found_member h k ms p (h.in_object ms holds) e
found_step h (place i) null p holds e = cc e
found_step h (place i) (boolean b) p holds e = cc e
found_step h (place i) (number s) p holds e = cc e
found_step h (place i) (string s) p holds e = cc e
found_step h (place i) (array js) p holds e = found_item h i js p (h.in_array js holds) e
found_step h (place i) (object ms) p holds e = cc e

-- what is inherited holds of the part that a path leads to
pub found_part : {P : Json → Type 0} {Q : Items → Type 0} {R : Members → Type 0} → IsInherited P Q R → (path : Path) (j p : Json) → P j → part_at path j ≡ Some p → P p
found_part {P} h [] j p holds e = subst P (same_Some j p e) holds
found_part {P} h (s ∷ path) j p holds e = by (step_into s j) (λ x is. found_step h s j x holds is) (λ x mine there. found_part h path x p mine there) e
  where
    by : (o : Option Json) → ((x : Json) → o ≡ Some x → P x) → ((x : Json) → P x → part_at path x ≡ Some p → P p) → option_and_then (part_at path) o ≡ Some p → P p
    by None step more e = cc e
    by (Some x) step more e = more x (step x refl) e

unique : IsInherited HasUniqueKeys ItemsHaveUniqueKeys MembersHaveUniqueKeys
unique = record { in_array = λ js h. h; in_items = λ j js h. h; in_object = λ ms h. h.1; in_members = λ k j ms h. h }

narrow : IsInherited HasNarrowNumbers ItemsHaveNarrowNumbers MembersHaveNarrowNumbers
narrow = record { in_array = λ js h. h; in_items = λ j js h. h; in_object = λ ms h. h; in_members = λ k j ms h. h }

-- no name comes twice in a part
pub unique_part : (path : Path) (j p : Json) → HasUniqueKeys j → Some p ≡ part_at path j → HasUniqueKeys p
unique_part path j p h e = found_part unique path j p h (sym e)

-- no number of a part has a wide exponent
pub narrow_part : (path : Path) (j p : Json) → HasNarrowNumbers j → Some p ≡ part_at path j → HasNarrowNumbers p
narrow_part path j p h e = found_part narrow path j p h (sym e)
