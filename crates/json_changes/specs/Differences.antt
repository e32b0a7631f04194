-- The differences between two JSON values: the smallest parts that differ, each with the path to
-- it.
--
-- Between {"items": [{"price": 9.5}, 1.0], "tag": "new"} and {"note": null, "items": [{"price":
-- 9.75}, 1]} they are items[0].price with 9.5 and 9.75, tag with "new" and nothing, and note with
-- nothing and null.
use Rattle.std.specs.Bool.{beq}
use Rattle.std.specs.Prelude.{ℕ, suc, Bool, true, false, if◌then◌else◌, List, [], ◌∷◌, ◌++◌, map}
use Rattle.std.specs.Prelude.{Option, Some, None}
use Rattle.std.specs.Str.{bytes_eq}
use Rattle.json.specs.Find.{get_member}
use Rattle.json.specs.Json.{Json, null, boolean, number, string, array, object, Items, no_items}
use Rattle.json.specs.Json.{item, Members, no_members, member}
use Rattle.json_decimals.specs.Texts.{normal_number}
use Rattle.json_paths.specs.Paths.{Step, name, place, Path}

-- the path to two parts, and the part of each side, where it has one
pub record Difference : Type 0 where
  pub path : Path
  pub left : Option Json
  pub right : Option Json

-- two values, as a difference
abbrev pub apart : Option Json → Option Json → Difference
apart left right = record { path = []; left = left; right = right }

-- a difference one step further in
abbrev pub inside : Step → Difference → Difference
inside s d = record { path = s ∷ d.path; left = d.left; right = d.right }

-- a value that only the left side has
abbrev pub only_left : Json → Difference
only_left j = apart (Some j) None

-- a value that only the right side has
abbrev pub only_right : Json → Difference
only_right k = apart None (Some k)

-- two values with no parts are the same, where numbers are compared by their values
abbrev pub is_same_leaf : Json → Json → Bool
is_same_leaf null null = true
is_same_leaf (boolean a) (boolean b) = beq a b
is_same_leaf (number s) (number t) = bytes_eq (normal_number s) (normal_number t)
is_same_leaf (string s) (string t) = bytes_eq s t
is_same_leaf j k = false

-- the difference between two values that have no parts to compare, where they are not the same
abbrev pub leaf_differences : Json → Json → List Difference
leaf_differences j k = if is_same_leaf j k then [] else apart (Some j) (Some k) ∷ []

-- items that only one side has, the first of them at a place
abbrev pub alone_items : (Json → Difference) → ℕ → Items → List Difference
alone_items alone n no_items = []
alone_items alone n (item j js) = inside (place n) (alone j) ∷ alone_items alone (suc n) js

-- the differences between a value and the one that is found for it, or the value that only the left
-- side has if none is found
abbrev pub beside : Json → (Json → List Difference) → Option Json → List Difference
beside j between None = only_left j ∷ []
beside j between (Some i) = between i

-- a member of the right side, if the left side has none of its name
abbrev pub added_member : List ℕ → Json → Option Json → List Difference
added_member k i None = inside (name k) (only_right i) ∷ []
added_member k i (Some j) = []

-- the members of the right side whose names the left side does not have
abbrev pub added_members : Members → Members → List Difference
added_members ms no_members = []
added_members ms (member k i ns) = added_member k i (get_member k ms) ++ added_members ms ns

abbrev mutual
  -- the differences between two values
  pub differences : Json → Json → List Difference
  differences (array js) (array ks) = item_differences 0 js ks
  differences (object ms) (object ns) = member_differences ms ns ++ added_members ms ns
  differences j k = leaf_differences j k

  -- the differences between items, each with the one at its place
  pub item_differences : ℕ → Items → Items → List Difference
  item_differences n (item j js) (item k ks) = map (inside (place n)) (differences j k)
      ++ item_differences (suc n) js ks
  item_differences n js ks = alone_items only_left n js ++ alone_items only_right n ks

  -- the differences between the left side's members and those of the same names
  pub member_differences : Members → Members → List Difference
  member_differences no_members ns = []
  member_differences (member k j ms) ns =
      map (inside (name k)) (beside j (λ i. differences j i) (get_member k ns))
      ++ member_differences ms ns
