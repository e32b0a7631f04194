-- The meaning of the operations and functions of columns.
--
-- -7 divided by 2 is -4 rounded down and -3 rounded toward 0, and leaves 1. With the number 10 on
-- the left a difference from the row 3 is 7. Number 5 in C is the remainder.
use Rattle.std.specs.Prelude.{ℕ, ℤ, List, [], ◌∷◌, Option, Some, None, slice_index_or}
use Rattle.arrow_arithmetic.specs.declared.calculating.Arithmetic.{Arithmetic}
use Rattle.arrow_arithmetic.specs.declared.calculating.Arithmetic.TheVariants.{Add, Subtract}
use Rattle.arrow_arithmetic.specs.declared.calculating.Arithmetic.TheVariants.{Multiply}
use Rattle.arrow_arithmetic.specs.declared.calculating.Arithmetic.TheVariants.{FloorDivide}
use Rattle.arrow_arithmetic.specs.declared.calculating.Arithmetic.TheVariants.{TruncatingDivide}
use Rattle.arrow_arithmetic.specs.declared.calculating.Arithmetic.TheVariants.{Modulo}
use Rattle.arrow_arithmetic.specs.declared.calculating.Sign.{Sign}
use Rattle.arrow_arithmetic.specs.declared.calculating.Sign.TheVariants.{Negate, Absolute}
use Rattle.arrow_arithmetic.specs.declared.calculating.Side.{Side}
use Rattle.arrow_arithmetic.specs.declared.calculating.Side.TheVariants.{Left, Right}
use Rattle.polars_compute_arithmetic.specs.Operations.{Function, Operation, difference_of}
use Rattle.polars_compute_arithmetic.specs.Operations.{floor_division, magnitude_of, modulo}
use Rattle.polars_compute_arithmetic.specs.Operations.{negation_of, product_of, sum_of}
use Rattle.polars_compute_arithmetic.specs.Operations.{truncated_division}

-- the operation on whole numbers
abbrev pub operation_of : Arithmetic → Operation
operation_of Add = sum_of
operation_of Subtract = difference_of
operation_of Multiply = product_of
operation_of FloorDivide = floor_division
operation_of TruncatingDivide = truncated_division
operation_of Modulo = modulo

-- an operation as a function of one number, where n stands on a side
abbrev pub placed : Side → Operation → ℤ → Function
placed Left op n = op n
placed Right op n = λ a. op a n

-- the function of a whole number
abbrev pub function_of : Sign → Function
function_of Negate = negation_of
function_of Absolute = magnitude_of

-- ---- numbers in C

-- the operations by their numbers, from 0 on
abbrev pub operations : List (Option Arithmetic)
operations =
    Some Add ∷ Some Subtract ∷ Some Multiply ∷ Some FloorDivide ∷ Some TruncatingDivide ∷ Some
    Modulo ∷ []

-- the operation with a number, or None
abbrev pub arithmetic_number : ℕ → Option Arithmetic
arithmetic_number n = slice_index_or operations n None

-- the side with a number, or None
abbrev pub side_number : ℕ → Option Side
side_number n = slice_index_or (Some Left ∷ Some Right ∷ []) n None

-- the function with a number, or None
abbrev pub sign_number : ℕ → Option Sign
sign_number n = slice_index_or (Some Negate ∷ Some Absolute ∷ []) n None
