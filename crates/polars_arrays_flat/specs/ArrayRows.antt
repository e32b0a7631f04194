-- The rows of arrays of numbers and of truth values, and null rows.
use Rattle.std.specs.Prelude.{◌≡◌, ℕ, ℤ, Bool, true, false, List, Option, count_by}
use Rattle.polars_arrays_flat.specs.Flat.{Flat}
use Rattle.polars_arrays_flat.specs.Numbers.{Numbers}
use Rattle.polars_arrays_flat.specs.Row.{Row, Null, Int}
use Rattle.polars_arrays_flat.specs.StoredRows.{row, kept, rows_under, number_slots, truth_slots}
use Rattle.polars_arrays_flat.specs.Validity.{is_present}

-- the rows of an array of numbers; `value` gives the whole number of an element
abbrev pub number_rows : {A : Type 0} → (A → ℤ) → Numbers A → List Row
number_rows value a = rows_under a.validity (number_slots value a.values)

-- the rows of an array of truth values
abbrev pub truth_rows : Flat Bool → List Row
truth_rows a = rows_under a.validity (truth_slots a.values)

-- true if a row is null
abbrev pub is_null : Row → Bool
is_null Null = true
is_null _ = false

-- the number of null rows
abbrev pub null_total : List Row → ℕ
null_total rows = count_by is_null rows

-- a row after the number x is written over it: a null stays null
abbrev pub filled_row : ℤ → Row → Row
filled_row x Null = Null
filled_row x _ = Int x

-- row i of an array is the stored row if it is present, else Null
abbrev pub MasksByPlace : Type 0
MasksByPlace =
    (validity : Option (List Bool)) (slots : List Row) (i : ℕ) → row (rows_under validity slots) i
    ≡ kept (is_present validity i) (row slots i)
