-- The paths and the values of {"a": 7} and {"b": 1, "a": [8, 9]}.
use Rattle.std.proofs.Common.{◌≡◌, List, [], ◌∷◌, refl}
use Rattle.std.specs.List.{count_by}
use Rattle.std.specs.Prelude.{codes}
use Rattle.json.specs.Json.{Json, number, array, no_items, item}
use Rattle.json_parts.specs.Parts.{Part, part}
use Rattle.json_groups.specs.Groups.{all_parts, has, paths_of, values_at}

abbrev list : Json
list = array (item (number (codes "8")) (item (number (codes "9")) no_items))

abbrev documents : List (List Part)
documents =
    (part (codes "a") (number (codes "7")) ∷ [])
    ∷ (part (codes "b") (number (codes "1")) ∷ part (codes "a") list ∷ part (codes "a[]") (number (codes "8")) ∷ part (codes "a[]") (number (codes "9")) ∷ [])
    ∷ []

paths : paths_of (all_parts documents) ≡ codes "a" ∷ codes "b" ∷ codes "a[]" ∷ []
paths = refl

values : values_at (codes "a") (all_parts documents) ≡ number (codes "7") ∷ list ∷ []
values = refl

both-have : count_by (has (codes "a")) documents ≡ 2
both-have = refl

one-has : count_by (has (codes "a[]")) documents ≡ 1
one-has = refl
