-- No stored number, truth value or byte string is Null.
use Rattle.std.specs.Prelude.{◌≡◌, ◌<◌, ℕ, zero, suc, ℤ, Bool, List, [], ◌∷◌, length}
use Rattle.std.proofs.Common.{arith}
use Rattle.polars_arrays_flat.specs.Row.{Null}
use Rattle.polars_arrays_flat.specs.StoredRows.{row, number_slots, truth_slots, byte_slots}

pub number_slots-present : {A : Type 0} (value : A → ℤ) (xs : List A) (i : ℕ)
    → i < length (number_slots value xs) → row (number_slots value xs) i ≡ Null → ⊥
number_slots-present value [] i within is_null = absurd (omega arith)
number_slots-present value (x ∷ xs) zero within is_null = cc
number_slots-present value (x ∷ xs) (suc i) within is_null =
    number_slots-present value xs i (omega arith) is_null

pub truth_slots-present : (xs : List Bool) (i : ℕ) → i < length (truth_slots xs)
    → row (truth_slots xs) i ≡ Null → ⊥
truth_slots-present [] i within is_null = absurd (omega arith)
truth_slots-present (x ∷ xs) zero within is_null = cc
truth_slots-present (x ∷ xs) (suc i) within is_null = truth_slots-present xs i (omega arith) is_null

pub byte_slots-present : (xs : List (List ℕ)) (i : ℕ) → i < length (byte_slots xs)
    → row (byte_slots xs) i ≡ Null → ⊥
byte_slots-present [] i within is_null = absurd (omega arith)
byte_slots-present (x ∷ xs) zero within is_null = cc
byte_slots-present (x ∷ xs) (suc i) within is_null = byte_slots-present xs i (omega arith) is_null
