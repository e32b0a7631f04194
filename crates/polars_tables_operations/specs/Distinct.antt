-- Questions about distinct rows.
use Rattle.std.specs.Prelude.{◌-ℤ◌, ◌&&◌, ℤ, pos, Bool, cond, int_lt, not, List, [], ◌∷◌, length}
use Rattle.std.specs.Prelude.{Result, Err}
use Rattle.polars_arrays_flat.specs.Row.{Row, Int}
use Rattle.polars_compute_slots.specs.State.{State, appended, are_within, finalised, new_state}
use Rattle.polars_compute_slots.specs.State.{numbers_between, set_of}
use Rattle.polars_tables_operations.specs.declared.operation.Distinct.{Distinct}
use Rattle.polars_tables_operations.specs.declared.operation.Distinct.TheVariants.{Listed, Counted}
use Rattle.polars_tables_operations.specs.declared.operation.Distinct.TheVariants.{PresentCounted}
use Rattle.polars_tables_rows.specs.declared.fault.LineError.{LineError}
use Rattle.polars_tables_rows.specs.declared.fault.LineError.TheVariants.{Range}

-- the rows of a state's result, or their number; `put` gives the row of a value
abbrev pub asked_of : (ℤ → Row) → Distinct → State → List Row
asked_of put Listed s = finalised put s
asked_of put Counted s = Int (pos (length (finalised put s))) ∷ []
asked_of put PresentCounted s = Int (pos (length (set_of s))) ∷ []

-- two numbers are in order, and their range has at most a million numbers
abbrev pub are_ends : ℤ → ℤ → Bool
are_ends first last = not (int_lt last first) && int_lt (last -ℤ first) (pos 1000000)

-- the result for the state of a range and appended rows, or the fault of the range or of a row
abbrev pub of_state : {B : Type 0} → ℤ → ℤ → List Row → (State → Result B LineError)
    → Result B LineError
of_state first last rows answer =
    cond (are_ends first last && are_within (numbers_between first last) rows)
    (answer (appended rows (new_state (numbers_between first last)))) (Err Range)
