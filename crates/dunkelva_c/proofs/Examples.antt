-- Worked examples of the definitions: the check computes both sides of each.
use Rattle.std.specs.Prelude.{◌≡◌, ◌-◌, ◌^◌, pos, negsuc, true, false, [], ◌∷◌, Some, None, refl}
use Rattle.arrow_arithmetic.specs.Arithmetic.{operation_of}
use Rattle.arrow_arithmetic.specs.declared.calculating.Arithmetic.TheVariants as arithmetic
use Rattle.arrow_calls.specs.declared.fault.Fault.TheVariants.{Room}
use Rattle.arrow_parts.specs.Kinds.{kind_number}
use Rattle.dunkelva_c.specs.Arithmetic.{results_at}
use Rattle.dunkelva_c.specs.Columns.{number_type, sum_at}
use Rattle.dunkelva_c.specs.Nulls.{has_nulls, masked_bits}
use Rattle.dunkelva_c.specs.States.{count_in, state_status}
use Rattle.dunkelva_c.specs.declared.states.StateFault.TheVariants.{Of, Outside}
use Rattle.polars_arrays_flat.specs.Row.{Null, Int}

-- kind 3 is the numbers of 8 bits with a sign: 100 + 100 is -56
results_at-wraps : results_at (number_type (kind_number 3)) (operation_of arithmetic.Add) (Int (pos 100) ∷ Null ∷ []) (Int (pos 100) ∷ Int (pos 1) ∷ []) ≡ Int (negsuc 55) ∷ Null ∷ []
results_at-wraps = refl

-- kind 3 is the numbers of 8 bits with a sign: 127 + 1 is -128
number_type-wraps : sum_at (number_type (kind_number 3)) (Int (pos 127) ∷ Null ∷ Int (pos 1) ∷ []) ≡ Some (negsuc 127)
number_type-wraps = refl

-- kind 2 is truth values, no numbers, but with nulls
number_type-none : number_type (kind_number 2) ≡ None
number_type-none = refl

has_nulls-truths : has_nulls (kind_number 2) ≡ true
has_nulls-truths = refl

masked_bits-one : masked_bits 2 (Some (true ∷ false ∷ [])) ≡ false ∷ true ∷ []
masked_bits-one = refl

masked_bits-none : masked_bits 2 None ≡ false ∷ false ∷ []
masked_bits-none = refl

-- statuses of calls on states, and the three numbers from -1 to 1
state_status-outside : state_status Outside ≡ pos 8
state_status-outside = refl

state_status-room : state_status (Of Room) ≡ pos 3
state_status-room = refl

count_in-three : count_in (record { low = 2 ^ 64 - 1; high = 2 ^ 64 - 1; exists = 1 }) (record { low = 1; high = 0; exists = 1 }) ≡ 3
count_in-three = refl
