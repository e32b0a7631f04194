-- Worked examples of the definitions: the check computes both sides of each.
use Rattle.std.proofs.Common.{◌≡◌, true, false, [], ◌∷◌, Some, None, Ok, Err, refl, codes}
use Rattle.std.specs.Prelude.{pos, negsuc}
use Rattle.std.specs.Fmt.{digits}
use Rattle.polars_arrays_flat.specs.Row.{Null, Int, Truth}
use Rattle.polars_compare_leaves.specs.Order.{row_less, row_greater}
use Rattle.polars_tables_operations.specs.declared.operation.BitCount.TheVariants.{LeadingZeros}
use Rattle.polars_tables_operations.specs.declared.operation.Calculation.TheVariants.{Ordered}
use Rattle.polars_tables_operations.specs.declared.operation.ComparisonKind.TheVariants.{LessOrEqual, EqualMissing}
use Rattle.polars_tables_operations.specs.declared.operation.Distinct.TheVariants.{Counted, Listed, PresentCounted}
use Rattle.polars_tables_operations.specs.declared.operation.GeneralOperation.TheVariants.{Compare, Extremes, Reduce}
use Rattle.polars_tables_operations.specs.declared.operation.NumericOperation.TheVariants.{Calculate, CalculateFromScalar, DistinctInRange, HasAllOfRange, Sum}
use Rattle.polars_tables_operations.specs.declared.operation.Operand.TheVariants.{Scalar, Rows}
use Rattle.polars_tables_operations.specs.declared.operation.Operation.TheVariants.{General, Numeric, DistinctTruths}
use Rattle.polars_tables_operations.specs.declared.operation.OrderedCalculation.TheVariants.{FloorDivide, Subtract}
use Rattle.polars_tables_operations.specs.declared.operation.Reduction.TheVariants.{And, Xor}
use Rattle.polars_tables_rows.specs.declared.fault.LineError.TheVariants.{Length, Range}
use Rattle.polars_tables_rows.specs.declared.row_type.RowType.TheVariants.{I8, U8, Boolean}
use Rattle.polars_tables_operations.specs.Answers.{general_answer, numeric_answer, truths_answer}
use Rattle.polars_tables_operations.specs.Bits.{bits_row, bits_value, count_of, lowest_bit}
use Rattle.polars_tables_operations.specs.Comparing.{answer_validity, compared_rows}
use Rattle.polars_tables_operations.specs.Distinct.{are_ends}
use Rattle.polars_tables_operations.specs.Operations.{lists_taken, operation_of, takes}
use Rattle.polars_tables_operations.specs.Reducing.{best_row, reduced_row, reduction_of}

-- null is the same as null, and a row is at most itself
missing-nulls : compared_rows EqualMissing (Int (pos 1) ∷ Null ∷ Int (pos 3) ∷ []) (Int (pos 1) ∷ Null ∷ Null ∷ []) ≡ Truth true ∷ Truth true ∷ Truth false ∷ []
missing-nulls = refl

ordered-nulls : compared_rows LessOrEqual (Truth true ∷ Truth true ∷ Null ∷ []) (Truth true ∷ Truth false ∷ Truth true ∷ []) ≡ Truth true ∷ Truth false ∷ Null ∷ []
ordered-nulls = refl

validity-joined : answer_validity LessOrEqual (Some (true ∷ false ∷ [])) (Some (true ∷ true ∷ [])) ≡ Some (true ∷ false ∷ [])
validity-joined = refl

operation-named : operation_of (codes "le_broadcast") ≡ Some (General (Compare LessOrEqual Scalar))
operation-named = refl

operation-unnamed : operation_of (codes "le_") ≡ None
operation-unnamed = refl

sum-type : takes (Numeric Sum) Boolean ≡ false
sum-type = refl

distinct-type : takes (DistinctTruths Listed) Boolean ≡ true
distinct-type = refl

zeros-counted : count_of LeadingZeros (true ∷ false ∷ false ∷ []) ≡ 2
zeros-counted = refl

value-bits : bits_value (false ∷ true ∷ true ∷ []) ≡ 6
value-bits = refl

bit-lowest : lowest_bit (true ∷ false ∷ []) ≡ true
bit-lowest = refl

row-truth : bits_row Boolean (true ∷ []) ≡ Truth true
row-truth = refl

best-least : best_row row_less (Int (pos 3) ∷ Null ∷ Int (negsuc 0) ∷ []) ≡ Some (Int (negsuc 0))
best-least = refl

best-none : best_row row_greater (Null ∷ []) ≡ None
best-none = refl

truths-and : reduction_of And Boolean (Truth true ∷ Null ∷ Truth false ∷ []) ≡ Some (Truth false)
truths-and = refl

ends-equal : are_ends (pos 5) (pos 5) ≡ true
ends-equal = refl

ends-fall : are_ends (pos 6) (pos 5) ≡ false
ends-fall = refl

-- 7 and -7 by 2, rounded down
quotients : numeric_answer (Calculate (Ordered FloorDivide) Scalar) I8 ((Int (pos 7) ∷ Int (negsuc 6) ∷ Null ∷ []) ∷ (Int (pos 2) ∷ []) ∷ []) ≡ Ok (codes "3 -4 null")
unfolding digits
quotients = refl

from-scalar : numeric_answer (CalculateFromScalar Subtract) U8 ((Int (pos 1) ∷ []) ∷ (Int (pos 2) ∷ []) ∷ []) ≡ Ok (codes "255")
unfolding digits
from-scalar = refl

extremes-none : general_answer Extremes I8 ((Null ∷ []) ∷ []) ≡ Ok (codes "none")
extremes-none = refl

extremes-two : general_answer Extremes Boolean ((Truth false ∷ Null ∷ Truth true ∷ []) ∷ []) ≡ Ok (codes "false true")
extremes-two = refl

scalar-missing : general_answer (Compare EqualMissing Scalar) I8 ((Null ∷ []) ∷ (Null ∷ []) ∷ []) ≡ Err Range
scalar-missing = refl

rows-unequal : general_answer (Compare EqualMissing Rows) I8 ((Null ∷ []) ∷ [] ∷ []) ≡ Err Length
rows-unequal = refl

range-counted : numeric_answer (DistinctInRange Counted) I8 ((Int (negsuc 0) ∷ Int (pos 1) ∷ []) ∷ (Int (pos 1) ∷ Int (pos 1) ∷ Null ∷ []) ∷ []) ≡ Ok (codes "2")
unfolding digits
range-counted = refl

range-all : numeric_answer HasAllOfRange U8 ((Int (pos 0) ∷ Int (pos 1) ∷ []) ∷ (Int (pos 0) ∷ Null ∷ Int (pos 1) ∷ []) ∷ []) ≡ Ok (codes "true")
range-all = refl

truths-present : truths_answer PresentCounted ((Truth true ∷ Null ∷ []) ∷ []) ≡ Ok (codes "1")
unfolding digits
truths-present = refl

lists-one : lists_taken (General Extremes) ≡ 1
lists-one = refl

lists-two : lists_taken (Numeric HasAllOfRange) ≡ 2
lists-two = refl
