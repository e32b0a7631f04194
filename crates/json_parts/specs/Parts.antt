-- The parts of a JSON value, each with the text of the path to it.
--
-- The parts of {"a": [7, {"b": null}]} are the array at a, 7 and the object at a[], and null at
-- a[].b.
use Rattle.std.specs.Prelude.{ℕ, List, [], ◌∷◌, ◌++◌}
use Rattle.json.specs.Json.{Json, null, boolean, number, string, array, object, Items, no_items}
use Rattle.json.specs.Json.{item, Members, no_members, member}
use Rattle.json.specs.Value.{value_view}
use Rattle.json_changes.specs.Texts.{name_text}
use Rattle.json_parts.specs.declared.parts.Part as rust

-- a part, and the text of the path to it
pub record Part : Type 0 where
  pub path : List ℕ
  pub value : Json

-- a value at a path
abbrev pub part : List ℕ → Json → Part
part path j = record { path = path; value = j }

-- the path to the items of an array at a path
abbrev pub item_path : List ℕ → List ℕ
item_path path = path ++ 91 ∷ 93 ∷ []

-- the path to the member with this name in an object at a path
abbrev pub member_path : List ℕ → List ℕ → List ℕ
member_path path k = path ++ name_text path k

abbrev mutual
  -- the parts of a value at a path: its members or its items, and their parts
  pub parts_below : List ℕ → Json → List Part
  parts_below path null = []
  parts_below path (boolean b) = []
  parts_below path (number s) = []
  parts_below path (string s) = []
  parts_below path (array js) = item_parts (item_path path) js
  parts_below path (object ms) = member_parts path ms

  -- items at a path, each with its parts after it
  pub item_parts : List ℕ → Items → List Part
  item_parts path no_items = []
  item_parts path (item j js) = part path j ∷ (parts_below path j ++ item_parts path js)

  -- the members of an object at a path, each with its parts after it
  pub member_parts : List ℕ → Members → List Part
  member_parts path no_members = []
  member_parts path (member k j ms) =
      part (member_path path k) j ∷ (parts_below (member_path path k) j ++ member_parts path ms)

-- the part that a value stands for
abbrev pub part_view : rust.Part → Part
part_view p = part p.path.items (value_view p.value.now)
