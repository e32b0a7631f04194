-- Arrays of numbers as contracts see them.
use Rattle.std.specs.Prelude.{Bool, List, Option, refl}
use Rattle.std.specs.Coded.{Coded, code_by, coded×, coded_bool, coded_list, coded_option}

-- the stored values (also of masked rows), the validity, and whether the array owns the values
pub record Numbers (A : Type 0) : Type 0 where
  pub values : List A
  pub validity : Option (List Bool)
  pub owned : Bool

-- coded as the triple of the three fields
abbrev pub numbers_code : {A : Type 0} → Coded A → Coded (Numbers A)
numbers_code code =
    code_by (List _ × (Option (List Bool) × Bool))
    (coded× (coded_list code) (coded× (coded_option (coded_list coded_bool)) coded_bool))
    (λ a. (a.values, (a.validity, a.owned)))
    (λ p. record { values = p.0; validity = p.1.0; owned = p.1.1 }) (λ _. refl)
