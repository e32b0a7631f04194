-- Worked examples of the definitions: the check computes both sides of each.
use Rattle.std.specs.Prelude.{◌≡◌, ℤ, pos, negsuc, true, false, [], ◌∷◌, Some, refl}
use Rattle.polars_arrays_flat.specs.Row.{Row, Null, Int}
use Rattle.polars_arrays_numbers.specs.Ranges.{least_of}
use Rattle.polars_compute_arithmetic.specs.Maps.{joined_validity}
use Rattle.polars_compute_arithmetic.specs.Operations.{Operation, answer_rows, difference_of, floor_division, magnitude_of, modulo, negation_of, or_zero, product_of, result_row, result_rows, sum_of, truncated_division}
use Rattle.polars_compute_arithmetic.specs.Quotients.{across, floor_quotient, modulus, truncated_quotient}
use Rattle.polars_compute_arithmetic.specs.Reciprocal.{reciprocal}

-- an operation on two numbers of i8
abbrev i8 : Operation → ℤ → ℤ → Row
i8 operation a b = result_row (least_of true 8) 8 operation (Int a) (Int b)

-- -7 / 2 is -4 rounded down and -3 rounded toward 0
floor-below : floor_quotient (negsuc 6) (pos 2) ≡ negsuc 3
floor-below = refl

truncated-below : truncated_quotient (negsuc 6) (pos 2) ≡ negsuc 2
truncated-below = refl

-- by -3, -7 leaves -1 and 7 leaves -2: the modulus lies on the divisor's side of 0
modulus-below : modulus (negsuc 6) (negsuc 2) ≡ negsuc 0
modulus-below = refl

modulus-above : modulus (pos 7) (negsuc 2) ≡ negsuc 1
modulus-above = refl

-- 7 / -3 leaves 1 when it is rounded toward 0, across 0 from -3
rest-across : across (pos 1) (negsuc 2) ≡ true
rest-across = refl

-- the ends of i8: -128 by -1, by itself, by 0, by 3
least-negated : i8 floor_division (negsuc 127) (negsuc 0) ≡ Int (negsuc 127)
least-negated = refl

least-by_itself : i8 truncated_division (negsuc 127) (negsuc 127) ≡ Int (pos 1)
least-by_itself = refl

least-by_zero : i8 modulo (negsuc 127) (pos 0) ≡ Null
least-by_zero = refl

least-by_three : (i8 floor_division (negsuc 127) (pos 3) ∷ i8 truncated_division (negsuc 127) (pos 3) ∷ i8 modulo (negsuc 127) (pos 3) ∷ []) ≡ (Int (negsuc 42) ∷ Int (negsuc 41) ∷ Int (pos 1) ∷ [])
least-by_three = refl

-- i8 [-128, 3] times -128 is [0, -128]
products-wrapped : answer_rows (least_of true 8) 8 (λ a. product_of a (negsuc 127)) (Int (negsuc 127) ∷ Int (pos 3) ∷ []) ≡ (Int (pos 0) ∷ Int (negsuc 127) ∷ [])
products-wrapped = refl

-- u8 [7, 9] / [0, 2] is [null, 4]; u8 [3] - 5 is [254]
quotients-of_u8 : result_rows (least_of false 8) 8 floor_division (Int (pos 7) ∷ Int (pos 9) ∷ []) (Int (pos 0) ∷ Int (pos 2) ∷ []) ≡ (Null ∷ Int (pos 4) ∷ [])
quotients-of_u8 = refl

differences-of_u8 : answer_rows (least_of false 8) 8 (λ a. difference_of a (pos 5)) (Int (pos 3) ∷ Null ∷ []) ≡ (Int (pos 254) ∷ Null ∷ [])
differences-of_u8 = refl

-- 7 / [2, 0, -2] in i8 is [3, null, -4]
quotients-of_seven : answer_rows (least_of true 8) 8 (floor_division (pos 7)) (Int (pos 2) ∷ Int (pos 0) ∷ Int (negsuc 1) ∷ []) ≡ (Int (pos 3) ∷ Null ∷ Int (negsuc 3) ∷ [])
quotients-of_seven = refl

-- -128 is as far from 0 as 128, which wraps to -128; a null stays null
magnitudes : answer_rows (least_of true 8) 8 magnitude_of (Int (negsuc 127) ∷ Null ∷ []) ≡ (Int (negsuc 127) ∷ Null ∷ [])
magnitudes = refl

negations : answer_rows (least_of false 8) 8 negation_of (Int (pos 1) ∷ []) ≡ (Int (pos 255) ∷ [])
negations = refl

no-answer : or_zero (floor_division (pos 7) (pos 0)) ≡ pos 0
no-answer = refl

sum-wrapped : i8 sum_of (pos 127) (pos 1) ≡ Int (negsuc 127)
sum-wrapped = refl

validities-joined : joined_validity (Some (true ∷ false ∷ [])) (Some (true ∷ true ∷ [])) ≡ Some (true ∷ false ∷ [])
validities-joined = refl

reciprocal-of_three : reciprocal 256 3 ≡ 86
reciprocal-of_three = refl
