-- Buffers as contracts see them, and as they are stored.
use Rattle.std.specs.Prelude.{Bool, true, false, List, refl}
use Rattle.std.specs.Coded.{Coded, code_by, coded×, coded_bool, coded_list}
use Rattle.std.specs.Rc.{rc_slice_items}
use Rattle.polars_arrays_bits.specs.declared.buffer.Store.{Store}
use Rattle.polars_arrays_bits.specs.declared.buffer.Store.TheVariants.{Owned, Shared}

-- elements in order, and whether the buffer owns them
pub record Elements (A : Type 0) : Type 0 where
  pub items : List A
  pub owned : Bool

-- the code of `Elements`: the pair of its two fields
abbrev pub elements_code : {A : Type 0} → Coded A → Coded (Elements A)
elements_code code =
    code_by (List _ × Bool) (coded× (coded_list code) coded_bool) (λ b. (b.items, b.owned))
    (λ p. record { items = p.0; owned = p.1 }) (λ _. refl)

-- all elements of the vector or the shared slice
abbrev pub stored : {A : Type 0} → Store A → List A
stored (Owned elements) = elements.items
stored (Shared elements) = rc_slice_items elements

-- true if a vector holds the elements, false if a shared slice does
abbrev pub is_vector : {A : Type 0} → Store A → Bool
is_vector (Owned elements) = true
is_vector (Shared elements) = false
