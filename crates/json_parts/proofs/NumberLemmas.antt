-- The numbers in parts.
use Rattle.std.proofs.Common.{ℕ, List, [], ◌∷◌, ◌++◌}
use Rattle.std.proofs.lemmas.List.Elements.{All-append, All-nil, All-push}
use Rattle.std.specs.Prelude.{All}
use Rattle.json.specs.Json.{Json, null, boolean, number, string, array, object, Items, no_items, item, Members, no_members, member}
use Rattle.json.specs.Tree.{HasNumbers, ItemsHaveNumbers, MembersHaveNumbers}
use Rattle.json_parts.specs.Parts.{Part, item_parts, item_path, member_parts, member_path, part, parts_below}

abbrev Numeric : Part → Type 0
Numeric p = HasNumbers p.value

-- a value and other parts
with_first : (path : List ℕ) (j : Json) (rest : List Part) → HasNumbers j → All Numeric rest → All Numeric (part path j ∷ rest)
with_first path j rest h all = All-append Numeric (part path j ∷ []) rest (All-push Numeric [] (part path j) (All-nil Numeric) h) all

mutual
  pub numbers_below : (path : List ℕ) (j : Json) → HasNumbers j → All Numeric (parts_below path j)
  numbers_below path null h = All-nil Numeric
  numbers_below path (boolean b) h = All-nil Numeric
  numbers_below path (number s) h = All-nil Numeric
  numbers_below path (string s) h = All-nil Numeric
  numbers_below path (array js) h = numbers_in_items (item_path path) js h
  numbers_below path (object ms) h = numbers_in_members path ms h

  numbers_in_items : (path : List ℕ) (js : Items) → ItemsHaveNumbers js → All Numeric (item_parts path js)
  numbers_in_items path no_items h = All-nil Numeric
  numbers_in_items path (item j js) h =
      with_first path j (parts_below path j ++ item_parts path js) h.0 (All-append Numeric (parts_below path j) (item_parts path js) (numbers_below path j h.0) (numbers_in_items path js h.1))

  numbers_in_members : (path : List ℕ) (ms : Members) → MembersHaveNumbers ms → All Numeric (member_parts path ms)
  numbers_in_members path no_members h = All-nil Numeric
  numbers_in_members path (member k j ms) h =
      with_first (member_path path k) j (parts_below (member_path path k) j ++ member_parts path ms) h.0
      (All-append Numeric (parts_below (member_path path k) j) (member_parts path ms) (numbers_below (member_path path k) j h.0) (numbers_in_members path ms h.1))
