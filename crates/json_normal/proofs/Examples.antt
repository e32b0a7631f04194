-- Worked examples of the definitions.
use Rattle.std.proofs.Common.{inl, inr, arith}
use Rattle.std.specs.Prelude.{◌≡◌, true, codes, refl}
use Rattle.fast_float.specs.Text.{scan}
use Rattle.json.specs.Json.{Json, null, boolean, number, string, array, object, no_items, item, no_members, member}
use Rattle.json.specs.Print.{escape_byte, print_from}
use Rattle.json_decimals.specs.Decimals.{normal_of, decimal_of}
use Rattle.json_decimals.specs.Texts.{digits_text, tens_text, number_text, normal_number}
use Rattle.json_normal.specs.Narrow.{HasNarrowNumbers}
use Rattle.json_normal.specs.Normal.{normal, normal_text}
use Rattle.json_normal.specs.Same.{AreSame}

-- {"b": 1.50, "a": [10]}
abbrev left : Json
left = object (member (codes "b") (number (codes "1.50")) (member (codes "a") (array (item (number (codes "10")) no_items)) no_members))

-- {"a": [1e1], "b": 15e-1}
abbrev right : Json
right = object (member (codes "a") (array (item (number (codes "1e1")) no_items)) (member (codes "b") (number (codes "15e-1")) no_members))

-- members in the order of their names, and numbers in one form
in_order-left : normal left ≡ right
unfolding normal_number number_text digits_text tens_text normal_of decimal_of scan
in_order-left = refl

text-left : normal_text left ≡ codes "{\"a\":[1e1],\"b\":15e-1}"
unfolding normal_number number_text digits_text tens_text normal_of decimal_of scan print_from escape_byte
text-left = refl

-- the two are the same
same : AreSame left right
unfolding decimal_of scan
same = (
  (inr (inl (refl, record { size = refl; sign = inr refl })), (inl (refl, (record { size = refl; sign = inr refl }, tt)), tt)),
  (inr (inl (refl, tt)), (inl (refl, tt), tt)),
)

-- a member more
with_more : AreSame (object no_members) right → ⊥
with_more h = h.1.0

-- items in another order
turned : AreSame (array (item (boolean true) (item null no_items))) (array (item null (item (boolean true) no_items))) → ⊥
turned h = h.0

-- a text that looks like a number is none
text-one : AreSame (string (codes "1")) (number (codes "1")) → ⊥
text-one h = h

-- a wide exponent
narrow : HasNarrowNumbers (number (codes "1e99"))
unfolding scan
narrow h = omega arith
