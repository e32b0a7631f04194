-- Worked examples of the definitions: the check computes both sides of each.
use Rattle.std.specs.Prelude.{◌≡◌, pos, negsuc, true, false, [], ◌∷◌, Some, None, refl}
use Rattle.arrow_arithmetic.specs.Answers.{beside_of, has_result, is_answered, lefts_of, rights_of}
use Rattle.arrow_arithmetic.specs.Arithmetic.{arithmetic_number, function_of, operation_of, placed, side_number, sign_number}
use Rattle.arrow_arithmetic.specs.declared.calculating.Arithmetic.TheVariants.{Subtract, FloorDivide, TruncatingDivide, Modulo}
use Rattle.arrow_arithmetic.specs.declared.calculating.Sign.TheVariants.{Absolute}
use Rattle.arrow_arithmetic.specs.declared.calculating.Side.TheVariants.{Left, Right}
use Rattle.polars_compute_arithmetic.specs.Operations.{result_rows}
use Rattle.polars_arrays_flat.specs.Row.{Null, Int}

-- -7 by 2 is -4 or -3, and leaves 1
operation_of-floor : operation_of FloorDivide (negsuc 6) (pos 2) ≡ Some (negsuc 3)
operation_of-floor = refl

operation_of-truncating : operation_of TruncatingDivide (negsuc 6) (pos 2) ≡ Some (negsuc 2)
operation_of-truncating = refl

operation_of-modulo : operation_of Modulo (negsuc 6) (pos 2) ≡ Some (pos 1)
operation_of-modulo = refl

operation_of-by_zero : has_result (operation_of Modulo (pos 7) (pos 0)) ≡ false
operation_of-by_zero = refl

-- 10 - 3, with the number 10 on the left
placed-left : placed Left (operation_of Subtract) (pos 10) (pos 3) ≡ Some (pos 7)
placed-left = refl

function_of-absolute : function_of Absolute (negsuc 4) ≡ Some (pos 5)
function_of-absolute = refl

is_answered-zero : is_answered (rights_of FloorDivide) (pos 0) ≡ false
is_answered-zero = refl

lefts_of-zero : is_answered (lefts_of true FloorDivide) (pos 7) ≡ false
lefts_of-zero = refl

-- u8 [3, null] - [5, 1] is [254, null]
result_rows-subtract : result_rows (pos 0) 8 (operation_of Subtract) (Int (pos 3) ∷ Null ∷ []) (Int (pos 5) ∷ Int (pos 1) ∷ []) ≡ (Int (pos 254) ∷ Null ∷ [])
result_rows-subtract = refl

-- 7 divided by a number on its right: the number is 0, so that no row has a result
beside_of-right : is_answered (beside_of Right true FloorDivide) (pos 7) ≡ false
beside_of-right = refl

-- a number on the left divided by 7
beside_of-left : is_answered (beside_of Left true FloorDivide) (pos 7) ≡ true
beside_of-left = refl

arithmetic_number-modulo : arithmetic_number 5 ≡ Some Modulo
arithmetic_number-modulo = refl

arithmetic_number-past_the_last : arithmetic_number 6 ≡ None
arithmetic_number-past_the_last = refl

side_number-right : side_number 1 ≡ Some Right
side_number-right = refl

sign_number-absolute : sign_number 1 ≡ Some Absolute
sign_number-absolute = refl
