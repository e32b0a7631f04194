-- The schemas of the paths a and a[] in {"a": 7} and {"b": 1, "a": [8, 9]}, and the kinds of values.
use Rattle.std.proofs.Common.{◌≡◌, List, [], ◌∷◌, length, refl}
use Rattle.std.specs.List.{count_by}
use Rattle.std.specs.Prelude.{codes, false, not, true}
use Rattle.json.specs.Json.{Json, null, number, string, array, no_items, item}
use Rattle.json_groups.specs.Groups.{all_parts, has, values_at}
use Rattle.json_parts.specs.Parts.{Part, part}
use Rattle.schema_paths.specs.Documents.{none_kept}
use Rattle.schema_paths.specs.Kinds.{is_array, is_null, is_text, numbers_in}
use Rattle.schema_paths.specs.Paths.{is_alike}

abbrev list : Json
list = array (item (number (codes "8")) (item (number (codes "9")) no_items))

abbrev documents : List (List Part)
documents =
    (part (codes "a") (number (codes "7")) ∷ [])
    ∷ (part (codes "b") (number (codes "1")) ∷ part (codes "a") list ∷ part (codes "a[]") (number (codes "8")) ∷ part (codes "a[]") (number (codes "9")) ∷ []) ∷ []

one-array : count_by is_array (values_at (codes "a") (all_parts documents)) ≡ 1
one-array = refl

two-numbers : numbers_in (values_at (codes "a[]") (all_parts documents)) ≡ codes "8" ∷ codes "9" ∷ []
two-numbers = refl

missing-in-one : count_by (λ parts. not (has (codes "a[]") parts)) documents ≡ 1
missing-in-one = refl

abbrev values : List Json
values = null ∷ number (codes "7") ∷ string (codes "a") ∷ number (codes "1.50") ∷ []

one-null : count_by is_null values ≡ 1
one-null = refl

one-text : count_by is_text values ≡ 1
one-text = refl

their-numbers : numbers_in values ≡ codes "7" ∷ codes "1.50" ∷ []
their-numbers = refl

-- of three lines all are passed over, or two of them
all-skipped : none_kept [] (1 ∷ 2 ∷ 3 ∷ []) ≡ true
all-skipped = refl

two-skipped : none_kept (2 ∷ []) (1 ∷ 3 ∷ []) ≡ false
two-skipped = refl

-- two counts
both-some : is_alike 1 5 ≡ true
both-some = refl

one-none : is_alike 0 5 ≡ false
one-none = refl
