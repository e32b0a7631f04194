-- Why a table has no table to compare by.
use Rattle.std.specs.Prelude.{◌≡◌, ◌<◌, ℕ, Bool, true, false, List, [], length, get_or, ⊤}
use Rattle.diff_numbers.specs.Cells.{IsWideNumber}
use Rattle.diff_numbers.specs.declared.error.ComparableError.{ComparableError}
use Rattle.diff_numbers.specs.declared.error.ComparableError.TheVariants.{Memory, WideExponent}

-- an allocation failed
abbrev pub IsMemory : ComparableError → Type 0
IsMemory e = e ≡ Memory

-- the cell at a row and a column is a number with a wide exponent, and numbers count in the column
pub record IsWideAt (numeric : List Bool) (rows : List (List (List ℕ))) (row column : ℕ) :
    Type 0 where
  pub row_within : row < length rows
  pub column_within : column < length numeric
  pub counts : get_or numeric column false ≡ true
  pub wide : IsWideNumber (get_or (get_or rows row []) column [])

-- a number that counts has a wide exponent, or an allocation failed
abbrev pub IsCellFault : List Bool → List (List (List ℕ)) → ComparableError → Type 0
IsCellFault numeric rows Memory = ⊤
IsCellFault numeric rows (WideExponent row column) = IsWideAt numeric rows row column
