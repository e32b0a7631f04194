-- Worked examples of the definitions.
use Rattle.std.specs.Fmt.{digits}
use Rattle.std.specs.Prelude.{◌≡◌, true, false, List, [], ◌∷◌, map, Some, None, codes, refl}
use Rattle.fast_float.specs.Text.{scan}
use Rattle.json.specs.Json.{Json, null, number, string, array, object, no_items, item, no_members, member}
use Rattle.json.specs.Print.{escape_byte, print_from}
use Rattle.json_decimals.specs.Decimals.{Decimal, normal_of, decimal_of}
use Rattle.json_decimals.specs.Texts.{digits_text, tens_text, number_text, normal_number}
use Rattle.json_paths.specs.Paths.{name, place}
use Rattle.json_paths.specs.Patterns.{Pattern, exactly}
use Rattle.json_tolerances.specs.declared.closeness.Margin.TheVariants.{Absolute}
use Rattle.json_changes.specs.Differences.{Difference, differences}
use Rattle.json_changes.specs.Rules.{Rules, differences_told, is_told}
use Rattle.json_changes.specs.Texts.{path_text, told}

abbrev cheap : Json
cheap = number (codes "9.5")

abbrev dear : Json
dear = number (codes "9.75")

-- {"items": [{"price": 9.5}, 1.0], "tag": "new"}
abbrev left : Json
left = object (member (codes "items") (array (item (object (member (codes "price") cheap no_members)) (item (number (codes "1.0")) no_items))) (member (codes "tag") (string (codes "new")) no_members))

-- {"note": null, "items": [{"price": 9.75}, 1]}
abbrev right : Json
right = object (member (codes "note") null (member (codes "items") (array (item (object (member (codes "price") dear no_members)) (item (number (codes "1")) no_items))) no_members))

abbrev three : List Difference
three =
    record { path = name (codes "items") ∷ place 0 ∷ name (codes "price") ∷ []; left = Some cheap; right = Some dear } ∷ record { path = name (codes "tag") ∷ []; left = Some (string (codes "new")); right = None }
    ∷ record { path = name (codes "note") ∷ []; left = None; right = Some null } ∷ []

-- members in any order, and numbers by what they are worth
differences-left : differences left right ≡ three
unfolding normal_number number_text digits_text tens_text normal_of decimal_of scan
differences-left = refl

-- their texts
told-three : map told three ≡ record { path = codes "items[0].price"; left = Some (codes "9.5"); right = Some (codes "9.75") }
    ∷ record { path = codes "tag"; left = Some (codes "\"new\""); right = None } ∷ record { path = codes "note"; left = None; right = Some (codes "null") } ∷ []
unfolding digits print_from escape_byte
told-three = refl

-- names that are not plain
quoted-front : path_text (name (codes "a.b") ∷ place 0 ∷ name (codes "c") ∷ []) ≡ codes ".\"a.b\"[0].c"
unfolding digits escape_byte
quoted-front = refl

quoted-empty : path_text (name (codes "items") ∷ place 2 ∷ name [] ∷ []) ≡ codes "items[2].\"\""
unfolding digits escape_byte
quoted-empty = refl

-- null is no missing member, and an item that one side alone has stands after the others
null-missing : differences (object (member (codes "a") null no_members)) (object no_members) ≡ record { path = name (codes "a") ∷ []; left = Some null; right = None } ∷ []
null-missing = refl

longer : differences (array no_items) (array (item null no_items)) ≡ record { path = place 0 ∷ []; left = None; right = Some null } ∷ []
longer = refl

-- an array and a scalar differ as a whole
whole : differences (array (item null no_items)) null ≡ record { path = []; left = Some (array (item null no_items)); right = Some null } ∷ []
whole = refl

-- ---- under rules

abbrev one : Json
one = number (codes "1")

abbrev two : Json
two = number (codes "2")

-- {"id": 1, "at": {"day": 1}, "note": null}
abbrev before : Json
before = object (member (codes "id") one (member (codes "at") (object (member (codes "day") one no_members)) (member (codes "note") null no_members)))

-- {"id": 2, "at": {"day": 2}}
abbrev after : Json
after = object (member (codes "id") two (member (codes "at") (object (member (codes "day") two no_members)) no_members))

abbrev id : Pattern
id = exactly (name (codes "id")) ∷ []

abbrev at : Pattern
at = exactly (name (codes "at")) ∷ []

abbrev day : Pattern
day = exactly (name (codes "at")) ∷ exactly (name (codes "day")) ∷ []

abbrev day_alone : List Difference
day_alone = record { path = name (codes "at") ∷ name (codes "day") ∷ []; left = Some one; right = Some two } ∷ []

-- id is ignored, and a missing note counts as null
told-ignored : differences_told (record { ignored = id ∷ []; only = []; missing_is_null = true; tolerances = [] }) before after ≡ day_alone
unfolding normal_number number_text digits_text tens_text normal_of decimal_of scan
told-ignored = refl

-- only at is asked for, or a part of it
told-only : differences_told (record { ignored = []; only = at ∷ []; missing_is_null = false; tolerances = [] }) before after ≡ day_alone
unfolding normal_number number_text digits_text tens_text normal_of decimal_of scan
told-only = refl

told-only-within : differences_told (record { ignored = []; only = day ∷ []; missing_is_null = false; tolerances = [] }) before after ≡ day_alone
unfolding normal_number number_text digits_text tens_text normal_of decimal_of scan
told-only-within = refl

-- what one side alone has is told as a whole where a part of it is asked for, and where a part of it is ignored
missing-around : is_told (record { ignored = []; only = day ∷ []; missing_is_null = false; tolerances = [] }) (record { path = name (codes "at") ∷ []; left = Some (object no_members); right = None }) ≡ true
missing-around = refl

ignored-within : is_told (record { ignored = day ∷ []; only = []; missing_is_null = false; tolerances = [] }) (record { path = name (codes "at") ∷ []; left = Some (object no_members); right = None }) ≡ true
ignored-within = refl

-- a part within one that is ignored
ignored-around : is_told (record { ignored = at ∷ []; only = []; missing_is_null = false; tolerances = [] }) (record { path = name (codes "at") ∷ name (codes "day") ∷ []; left = Some one; right = Some two }) ≡ false
ignored-around = refl

-- null against a number is told where a missing part counts as null
null-one : is_told (record { ignored = []; only = []; missing_is_null = true; tolerances = [] }) (record { path = []; left = Some null; right = Some one }) ≡ true
null-one = refl

-- and so is a missing number
missing-one : is_told (record { ignored = []; only = []; missing_is_null = true; tolerances = [] }) (record { path = name (codes "a") ∷ []; left = None; right = Some one }) ≡ true
missing-one = refl

-- ---- with tolerances

-- the numeral 1, which is its own decimal
abbrev unit : Decimal
unit = decimal_of (codes "1")

abbrev near_id : Rules
near_id = record { ignored = []; only = []; missing_is_null = false; tolerances = record { pattern = id; margin = Absolute unit } ∷ [] }

-- an id that differs by 1 is not told
told-near : differences_told near_id before after
    ≡ record { path = name (codes "at") ∷ name (codes "day") ∷ []; left = Some one; right = Some two } ∷ record { path = name (codes "note") ∷ []; left = Some null; right = None } ∷ []
unfolding normal_number number_text digits_text tens_text normal_of decimal_of scan
told-near = refl

-- a text that looks like a number is none, and a missing number is not close to any
text-against : is_told near_id (record { path = name (codes "id") ∷ []; left = Some one; right = Some (string (codes "1")) }) ≡ true
text-against = refl

missing-against : is_told near_id (record { path = name (codes "id") ∷ []; left = Some one; right = None }) ≡ true
missing-against = refl
