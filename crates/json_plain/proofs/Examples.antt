-- Worked examples of the definitions.
use Rattle.std.specs.Prelude.{◌≡◌, ◌++◌, [], ◌∷◌, codes, refl}
use Rattle.json_plain.specs.Plain.{plain_byte, plain_json}

-- U+0085 after an a
next-line : plain_json (codes "\"a" ++ 194 ∷ 133 ∷ codes "\"") ≡ codes "\"a\\u0085\""
unfolding plain_json plain_byte
next-line = refl

-- U+007F
delete : plain_json (34 ∷ 127 ∷ 34 ∷ []) ≡ codes "\"\\u007f\""
unfolding plain_json plain_byte
delete = refl

-- U+00B0, a degree sign
degree-sign : plain_json (34 ∷ 194 ∷ 176 ∷ 34 ∷ []) ≡ 34 ∷ 194 ∷ 176 ∷ 34 ∷ []
unfolding plain_json plain_byte
degree-sign = refl
