-- The results of arithmetic on arrays of numbers.
use Rattle.std.specs.Prelude.{◌≡◌, ℕ, ℤ}
use Rattle.polars_arrays_flat.specs.ArrayRows.{number_rows}
use Rattle.polars_arrays_flat.specs.Numbers.{Numbers}
use Rattle.polars_arrays_numbers.specs.Wrapping.{wrapped}
use Rattle.polars_compute_arithmetic.specs.Operations.{Function, Operation, answer_rows, or_zero}
use Rattle.polars_compute_arithmetic.specs.Operations.{result_rows}

module _ {A : Type 0} (value : A → ℤ) (least : ℤ) (width : ℕ) where
  -- the rows of `after` are the results of f for those of `before`
  abbrev pub IsAnswer : Function → Numbers A → Numbers A → Type 0
  IsAnswer f before after = number_rows value after
      ≡ answer_rows least width f (number_rows value before)

  -- the rows of `after` are the results of an operation on those of `left` and `right`
  abbrev pub IsResult : Operation → Numbers A → Numbers A → Numbers A → Type 0
  IsResult operation left right after =
      number_rows value after
      ≡ result_rows least width operation (number_rows value left) (number_rows value right)

  -- z is the result of an operation on x and y, wrapped, or 0 if there is none
  abbrev pub Gives : Operation → A → A → A → Type 0
  Gives operation x y z = value z ≡ wrapped least width (or_zero (operation (value x) (value y)))
