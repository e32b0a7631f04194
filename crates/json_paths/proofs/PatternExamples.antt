-- Worked examples of the definitions.
use Rattle.std.specs.Prelude.{◌≡◌, true, false, [], ◌∷◌, Some, None, codes, refl}
use Rattle.json.specs.Json.{Json, number, array, object, no_items, item, no_members, member}
use Rattle.json_paths.specs.Paths.{Path, name, place, part_at}
use Rattle.json_paths.specs.Patterns.{Pattern, any_item, begins, exactly, leads_to}

-- {"items": [7, {"price": 9.5}], "a.b": 1}
abbrev order : Json
order =
    object
    (member (codes "items") (array (item (number (codes "7")) (item (object (member (codes "price") (number (codes "9.5")) no_members)) no_items)))
    (member (codes "a.b") (number (codes "1")) no_members))

-- items[1].price
abbrev price : Path
price = name (codes "items") ∷ place 1 ∷ name (codes "price") ∷ []

-- items[].price
abbrev prices : Pattern
prices = exactly (name (codes "items")) ∷ any_item ∷ exactly (name (codes "price")) ∷ []

price-leads : part_at price order ≡ Some (number (codes "9.5"))
price-leads = refl

name-leads : part_at (name (codes "a.b") ∷ []) order ≡ Some (number (codes "1"))
name-leads = refl

nowhere : part_at (name (codes "items") ∷ place 2 ∷ []) order ≡ None
nowhere = refl

begins-price : begins prices price ≡ true
begins-price = refl

begins-within : begins prices (name (codes "items") ∷ place 1 ∷ name (codes "price") ∷ name (codes "net") ∷ []) ≡ true
begins-within = refl

not-around : begins prices (name (codes "items") ∷ place 1 ∷ []) ≡ false
not-around = refl

not-beside : begins prices (name (codes "items") ∷ place 1 ∷ name (codes "count") ∷ []) ≡ false
not-beside = refl

-- the step to any item leads to no member
no-item : begins prices (name (codes "items") ∷ name (codes "1") ∷ name (codes "price") ∷ []) ≡ false
no-item = refl

around : leads_to prices (name (codes "items") ∷ place 1 ∷ []) ≡ true
around = refl

not-beyond : leads_to prices price ≡ false
not-beyond = refl

-- a place in a pattern is that place alone
one-place : begins (exactly (place 0) ∷ []) (place 1 ∷ []) ≡ false
one-place = refl
