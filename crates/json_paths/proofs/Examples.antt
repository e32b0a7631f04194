-- Worked examples of the definitions.
use Rattle.std.specs.Prelude.{◌≡◌, [], ◌∷◌, Some, None, codes, refl}
use Rattle.json.specs.Json.{Json, number, array, object, no_items, item, no_members, member}
use Rattle.json_paths.specs.Paths.{name, place, part_at}

-- {"items": [7, {"price": 9.5}], "a.b": 1}
abbrev order : Json
order = object (member (codes "items") (array (item (number (codes "7")) (item (object (member (codes "price") (number (codes "9.5")) no_members)) no_items)))
    (member (codes "a.b") (number (codes "1")) no_members))

-- items[1].price
price : part_at (name (codes "items") ∷ place 1 ∷ name (codes "price") ∷ []) order ≡ Some (number (codes "9.5"))
price = refl

-- ."a.b"
quoted : part_at (name (codes "a.b") ∷ []) order ≡ Some (number (codes "1"))
quoted = refl

-- items[2]
nowhere : part_at (name (codes "items") ∷ place 2 ∷ []) order ≡ None
nowhere = refl

-- the path of no step leads to the value itself
whole : part_at [] order ≡ Some order
whole = refl
