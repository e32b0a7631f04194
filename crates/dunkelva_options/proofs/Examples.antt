-- Worked examples of the definitions.
use Rattle.std.specs.Prelude.{◌≡◌, [], ◌∷◌, codes, refl}
use Rattle.dunkelva_options.specs.Lists.{all_parts, list_parts}

two : list_parts (codes "a,b") ≡ codes "a" ∷ codes "b" ∷ []
two = refl

-- ."a,b",c
quoted : list_parts (codes ".\"a,b\",c") ≡ codes ".\"a,b\"" ∷ codes "c" ∷ []
quoted = refl

-- an escaped quote ends no name: ."a\",b"
escaped : list_parts (codes ".\"a\\\",b\"") ≡ codes ".\"a\\\",b\"" ∷ []
escaped = refl

-- a list of no text has one empty text
none : list_parts [] ≡ [] ∷ []
none = refl

last_empty : list_parts (codes "a,") ≡ codes "a" ∷ [] ∷ []
last_empty = refl

lists : all_parts (codes "a,b" ∷ codes "c" ∷ []) ≡ codes "a" ∷ codes "b" ∷ codes "c" ∷ []
lists = refl
