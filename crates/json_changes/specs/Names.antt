-- Members found by their names.
use Rattle.std.specs.BTreeMap.{BTreeMap, get_by}
use Rattle.std.specs.Borrow.{Bor}
use Rattle.std.specs.Cmp.Lexicographic.{slice_cmp}
use Rattle.std.specs.Option.{option_map}
use Rattle.std.specs.Ordering.{nat_cmp}
use Rattle.std.specs.Prelude.{◌≡◌, ℕ, List, Option, map}
use Rattle.json.specs.Find.{get_member}
use Rattle.json.specs.Json.{Json, Members}
use Rattle.json.specs.Value.{value_view}
use Rattle.json.specs.declared.value.Value.{Value}

-- the value that a map has at a name
abbrev pub at_name : {A : Type 0} → BTreeMap (Bor (List ℕ)) (Bor (Value A)) → List ℕ
    → Option (Bor (Value A))
at_name names k = get_by (λ q. slice_cmp nat_cmp k q.now) names

-- the tree of a value that is borrowed, where there is one
abbrev pub seen : {A : Type 0} → Option (Bor (Value A)) → Option Json
seen o = option_map (λ v. value_view v.now) o

-- each name leads to the value that is found by it among the members
abbrev pub FindsMembers : {A : Type 0} → BTreeMap (Bor (List ℕ)) (Bor (Value A)) → Members → Type 0
FindsMembers names ms = (k : List ℕ) → seen (at_name names k) ≡ get_member k ms

-- the values that are found by the names of members
abbrev pub found_values : {A : Type 0} → List (Bor (List ℕ) × Value A) → Members
    → List (Option Json)
found_values own ns = map (λ m. get_member m.0.now ns) own
