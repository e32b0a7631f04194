-- Arrays without child arrays, as contracts see them.
use Rattle.std.specs.Prelude.{Bool, List, Option, refl}
use Rattle.std.specs.Coded.{Coded, code_by, coded×, coded_bool, coded_list, coded_option}

-- the stored values, including those of masked rows, and the validity
pub record Flat (A : Type 0) : Type 0 where
  pub values : List A
  pub validity : Option (List Bool)

-- coded as the pair of the two
abbrev pub flat_code : {A : Type 0} → Coded A → Coded (Flat A)
flat_code code =
    code_by (List _ × Option (List Bool))
    (coded× (coded_list code) (coded_option (coded_list coded_bool)))
    (λ a. (a.values, a.validity)) (λ p. record { values = p.0; validity = p.1 }) (λ _. refl)
