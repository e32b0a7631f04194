-- Operations on whole numbers and on rows of numbers, and their results in types that wrap.
use Rattle.std.specs.Prelude.{◌+ℤ◌, ◌-ℤ◌, ◌*ℤ◌, ℕ, zero, suc, ℤ, pos, negsuc, neg_ℤ, unsigned_abs}
use Rattle.std.specs.Prelude.{List, map, Option, Some, None}
use Rattle.std.specs.Simd.Lanes.{zip2}
use Rattle.polars_arrays_flat.specs.Row.{Row, Null, Int}
use Rattle.polars_arrays_numbers.specs.Wrapping.{wrapped}
use Rattle.polars_compute_arithmetic.specs.Quotients.{floor_quotient, truncated_quotient, modulus}

-- a function of a whole number, or an operation on two, has a result or none
abbrev pub Function : Type 0
Function = ℤ → Option ℤ

abbrev pub Operation : Type 0
Operation = ℤ → ℤ → Option ℤ

abbrev pub negation_of : Function
negation_of a = Some (neg_ℤ a)

-- the distance of a number from 0
abbrev pub magnitude_of : Function
magnitude_of a = Some (pos (unsigned_abs a))

abbrev pub sum_of : Operation
sum_of a b = Some (a +ℤ b)

abbrev pub difference_of : Operation
difference_of a b = Some (a -ℤ b)

abbrev pub product_of : Operation
product_of a b = Some (a *ℤ b)

-- a result for each divisor except 0
abbrev pub unless_zero : (ℤ → ℤ → ℤ) → Operation
unless_zero f a (pos zero) = None
unless_zero f a (pos (suc n)) = Some (f a (pos (suc n)))
unless_zero f a (negsuc n) = Some (f a (negsuc n))

abbrev pub floor_division : Operation
floor_division = unless_zero floor_quotient

abbrev pub truncated_division : Operation
truncated_division = unless_zero truncated_quotient

abbrev pub modulo : Operation
modulo = unless_zero modulus

-- the result, or 0 if there is none
abbrev pub or_zero : Option ℤ → ℤ
or_zero None = pos 0
or_zero (Some a) = a

-- the row of a result, wrapped to a type; Null if there is none
abbrev pub answer_row : ℤ → ℕ → Option ℤ → Row
answer_row least width None = Null
answer_row least width (Some a) = Int (wrapped least width a)

-- the result of f for a row's number, and Null for any other row
abbrev pub on_row : (ℤ → Row) → Row → Row
on_row f (Int a) = f a
on_row f row = Null

-- the result for two rows, wrapped: Null if one of them is Null or there is no result
abbrev pub result_row : ℤ → ℕ → Operation → Row → Row → Row
result_row least width operation x y = on_row
    (λ a. on_row (λ b. answer_row least width (operation a b)) y) x

-- the rows of the results for two columns, row by row
abbrev pub result_rows : ℤ → ℕ → Operation → List Row → List Row → List Row
result_rows least width operation xs ys = zip2 (result_row least width operation) xs ys

-- the rows of a function's results for a column, wrapped; nulls stay null
abbrev pub answer_rows : ℤ → ℕ → Function → List Row → List Row
answer_rows least width f xs = map (on_row (λ a. answer_row least width (f a))) xs
