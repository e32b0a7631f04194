-- The parts of {"a": [7, {"b": null}], "a.b": true}: the array at a, 7 and the object at a[], null at a[].b, and true at ."a.b".
use Rattle.std.proofs.Common.{◌≡◌, true, [], ◌∷◌, refl}
use Rattle.std.specs.Prelude.{codes}
use Rattle.json.specs.Json.{Json, null, boolean, number, array, object, no_items, item, no_members, member}
use Rattle.json.specs.Print.{escape_byte, print_from}
use Rattle.json_parts.specs.Parts.{part, parts_below}

abbrev inner : Json
inner = object (member (codes "b") null no_members)

abbrev list : Json
list = array (item (number (codes "7")) (item inner no_items))

parts_of_both : parts_below [] (object (member (codes "a") list (member (codes "a.b") (boolean true) no_members)))
    ≡ part (codes "a") list ∷ part (codes "a[]") (number (codes "7")) ∷ part (codes "a[]") inner ∷ part (codes "a[].b") null ∷ part (codes ".\"a.b\"") (boolean true) ∷ []
unfolding print_from escape_byte
parts_of_both = refl
