-- The numbers for which an operation has a result.
--
-- 7 divided by 2 has a result, and 7 divided by 0 has none. A sum always has one.
use Rattle.std.specs.Prelude.{ℤ, Bool, true, false, Option, Some, None}
use Rattle.arrow_arithmetic.specs.declared.calculating.Arithmetic.{Arithmetic}
use Rattle.arrow_arithmetic.specs.declared.calculating.Arithmetic.TheVariants.{Add, Subtract}
use Rattle.arrow_arithmetic.specs.declared.calculating.Arithmetic.TheVariants.{Multiply}
use Rattle.arrow_arithmetic.specs.declared.calculating.Arithmetic.TheVariants.{FloorDivide}
use Rattle.arrow_arithmetic.specs.declared.calculating.Arithmetic.TheVariants.{TruncatingDivide}
use Rattle.arrow_arithmetic.specs.declared.calculating.Arithmetic.TheVariants.{Modulo}
use Rattle.arrow_arithmetic.specs.declared.calculating.Side.{Side}
use Rattle.arrow_arithmetic.specs.declared.calculating.Side.TheVariants.{Left, Right}
use Rattle.arrow_arithmetic.specs.declared.present.Answered.{Answered}
use Rattle.arrow_arithmetic.specs.declared.present.Answered.TheVariants.{Each, Nonzero, Nothing}
use Rattle.polars_compute_arithmetic.specs.Zeros.{is_nonzero}

-- there is a result
abbrev pub has_result : Option ℤ → Bool
has_result None = false
has_result (Some a) = true

-- there is a result for the number
abbrev pub is_answered : Answered → ℤ → Bool
is_answered Each a = true
is_answered Nonzero a = is_nonzero a
is_answered Nothing a = false

-- the right numbers for which there is a result
abbrev pub rights_of : Arithmetic → Answered
rights_of FloorDivide = Nonzero
rights_of TruncatingDivide = Nonzero
rights_of Modulo = Nonzero
rights_of Add = Each
rights_of Subtract = Each
rights_of Multiply = Each

-- the left numbers for which there is a result; the flag says whether the right number is 0
abbrev pub lefts_of : Bool → Arithmetic → Answered
lefts_of false _ = Each
lefts_of true FloorDivide = Nothing
lefts_of true TruncatingDivide = Nothing
lefts_of true Modulo = Nothing
lefts_of true Add = Each
lefts_of true Subtract = Each
lefts_of true Multiply = Each

-- the numbers for which there is a result with another one on a side; `zero` says whether it is 0
abbrev pub beside_of : Side → Bool → Arithmetic → Answered
beside_of Left _ op = rights_of op
beside_of Right zero op = lefts_of zero op
