-- Bits of parts of numbers.
--
-- The rows 12, null and 10 are joined to 8 by AND, to 14 by OR and to 6 by exclusive OR.
use Rattle.std.specs.Prelude.{◌≡◌, ◌≤ℤ◌, ℕ, ℤ, List, Option, Some, None, IfSome, option_map}
use Rattle.arrow_calls.specs.Numbers.{number_words}
use Rattle.arrow_calls.specs.declared.fault.Fault.{Fault}
use Rattle.arrow_calls.specs.declared.fault.Fault.TheVariants.{NotServed}
use Rattle.arrow_calls.specs.declared.number.Number.{Number}
use Rattle.arrow_columns.specs.Reductions.{joins_bits}
use Rattle.arrow_columns.specs.declared.reducing.BitOperator.{BitOperator}
use Rattle.arrow_parts.specs.Kinds.{kind_number}
use Rattle.arrow_parts.specs.declared.part.Part.{Part}
use Rattle.dunkelva_c.specs.Columns.{IsTrueFault, NumberType, number_rows_of, number_type}
use Rattle.polars_arrays_flat.specs.Row.{Row}
use Rattle.polars_compute_reductions.specs.Bitwise.{number_bits, reduced}

-- a number from `least` to `greatest` has the bits that an operator joins from those of rows; there
-- is none if no row is present
pub record HasJoinedBits (least greatest : ℤ) (width : ℕ) (operator : BitOperator) (rows : List Row)
    (number : Option ℤ) : Type 0 where
  pub bits : option_map (number_bits width) number ≡ reduced (joins_bits operator) width rows
  pub in_type : IfSome number (λ n. (least ≤ℤ n) × (n ≤ℤ greatest))

-- a number is the reduction of rows at a type
abbrev pub IsReductionAt : Option NumberType → BitOperator → List Row → Option ℤ → Type 0
IsReductionAt None operator rows number = ⊥
IsReductionAt (Some type) operator rows number =
    HasJoinedBits type.least type.greatest type.width operator rows number

-- a number is the reduction of a part of numbers
abbrev pub IsReduction : BitOperator → Part → Option ℤ → Type 0
IsReduction operator p number =
    IsReductionAt (number_type (kind_number p.kind)) operator (number_rows_of p) number

-- a number in the caller's memory is the reduction of a part, by the operator with a number
pub record IsReduced (operator : BitOperator) (p : Part) (out : Number) : Type 0 where
  pub number : Option ℤ
  pub words : out ≡ number_words number
  pub reduction : IsReduction operator p number

abbrev pub IsNumberedReduction : Option BitOperator → Part → Number → Type 0
IsNumberedReduction None p out = ⊥
IsNumberedReduction (Some operator) p out = IsReduced operator p out

-- a fault of a numbered reduction is true: no operator may have the number
abbrev pub IsTrueReduceFault : Option BitOperator → Part → Fault → Type 0
IsTrueReduceFault None p fault = fault ≡ NotServed
IsTrueReduceFault (Some operator) p fault = IsTrueFault p fault
