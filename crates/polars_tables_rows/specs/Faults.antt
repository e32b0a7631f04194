-- Conditions for the faults of a line.
use Rattle.std.specs.Prelude.{◌≡◌, ◌⊎◌, ℤ, cond, List, [], ◌∷◌, Option, None, Some, Result, Ok, Err}
use Rattle.std.specs.Prelude.{MatchResult}
use Rattle.polars_arrays_flat.specs.ArrayRows.{is_null}
use Rattle.polars_arrays_flat.specs.Row.{Row, Int}
use Rattle.polars_tables_rows.specs.declared.fault.LineError.{LineError}
use Rattle.polars_tables_rows.specs.declared.fault.LineError.TheVariants.{Length, Range, Memory}

-- the fault is a failed allocation, or else P holds
abbrev pub UnlessMemory : LineError → Type 0 → Type 0
UnlessMemory fault P = (fault ≡ Memory) ⊎ P

-- the result, read by `read`, or the fault is that of `meaning`; or the fault is Memory
abbrev pub Tells : {X Y : Type 0} → (X → Y) → Result Y LineError → Result X LineError → Type 0
Tells read meaning result = MatchResult result (λ x. meaning ≡ Ok (read x))
    (λ fault. UnlessMemory fault (meaning ≡ Err fault))

-- the result for a value if there is one, or else the fault
abbrev pub or_fault : {A B : Type 0} → Option A → LineError → (A → Result B LineError)
    → Result B LineError
or_fault None fault answer = Err fault
or_fault (Some x) fault answer = answer x

-- the result for the only list, or the fault that there are more or fewer lists
abbrev pub of_one : {A B : Type 0} → List A → (A → Result B LineError) → Result B LineError
of_one (x ∷ []) answer = answer x
of_one [] answer = Err Length
of_one (x ∷ y ∷ more) answer = Err Length

-- the result for the two lists, or the fault that there are more or fewer lists
abbrev pub of_two : {A B : Type 0} → List A → (A → A → Result B LineError) → Result B LineError
of_two (x ∷ y ∷ []) answer = answer x y
of_two [] answer = Err Length
of_two (x ∷ []) answer = Err Length
of_two (x ∷ y ∷ z ∷ more) answer = Err Length

-- the result for a row, or the fault that it is null
abbrev pub unless_null : {B : Type 0} → Row → (Row → Result B LineError) → Result B LineError
unless_null x answer = cond (is_null x) (Err Range) (answer x)

-- the result for a number, or the fault that the row is not one
abbrev pub of_number : {B : Type 0} → Row → (ℤ → Result B LineError) → Result B LineError
of_number (Int n) answer = answer n
of_number x answer = Err Range

-- the result for the only row of a list, which must not be null
abbrev pub of_scalar : {B : Type 0} → List Row → (Row → Result B LineError) → Result B LineError
of_scalar scalars answer = of_one scalars (λ scalar. unless_null scalar answer)

-- the result for the only row of a list, which must be a number
abbrev pub of_number_scalar : {B : Type 0} → List Row → (ℤ → Result B LineError)
    → Result B LineError
of_number_scalar scalars answer = of_one scalars (λ scalar. of_number scalar answer)

-- the result for the two ends of a range, which must be numbers
abbrev pub of_ends : {B : Type 0} → List Row → (ℤ → ℤ → Result B LineError) → Result B LineError
of_ends ends answer = of_two ends (λ first last. of_number first (λ m. of_number last (answer m)))
