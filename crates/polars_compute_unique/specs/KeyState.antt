-- States of dictionary keys as contracts see them.
use Rattle.std.specs.Prelude.{ℤ, Bool, List, refl}
use Rattle.std.specs.Coded.{Coded, code_by, coded×, coded_bool, coded_list, coded_ℤ}
use Rattle.polars_arrays_nested.specs.declared.any_array.AnyArray.{AnyArray}
use Rattle.polars_compute_slots.specs.State.{State}

-- the state of the keys, and the dictionary of their entries
pub record KeyState : Type 0 where
  pub keys : State
  pub entries : AnyArray

-- coded as its parts; the code of arrays is a parameter
abbrev pub key_state_code : Coded AnyArray → Coded KeyState
key_state_code code =
    code_by (List (ℤ × Bool) × (Bool × AnyArray))
    (coded× (coded_list (coded× coded_ℤ coded_bool)) (coded× coded_bool code))
    (λ s. (s.keys.values, (s.keys.has_null, s.entries)))
    (λ p. record { keys = record { values = p.0; has_null = p.1.0 }; entries = p.1.1 })
    (λ _. refl)
