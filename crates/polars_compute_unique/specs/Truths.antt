-- States of truth values.
use Rattle.std.specs.Prelude.{◌++◌, Bool, false, cond, List, [], ◌∷◌, map, pos}
use Rattle.std.specs.Ordering.{int_eq}
use Rattle.polars_compute_slots.specs.State.{State, set_of}

-- the truth values that were seen, false before true, and then false if a null was seen
abbrev pub seen_bits : State → List Bool
seen_bits s = map (λ v. int_eq v (pos 1)) (set_of s) ++ cond s.has_null (false ∷ []) []
