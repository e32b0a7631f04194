-- The results of operations for lists of rows: text, or the first fault.
use Rattle.std.specs.Prelude.{◌==◌, ℕ, ℤ, cond, List, [], ◌∷◌, length, map, replicate, codes}
use Rattle.std.specs.Prelude.{Option, None, Some, pos, Result, Ok, Err}
use Rattle.polars_arrays_flat.specs.Row.{Row, Int, Truth}
use Rattle.polars_arrays_numbers.specs.Wrapping.{wrapped}
use Rattle.polars_compare_leaves.specs.Order.{row_less, row_greater}
use Rattle.polars_compute_arithmetic.specs.Operations.{answer_rows, result_rows}
use Rattle.polars_compute_reductions.specs.Bitwise.{counted}
use Rattle.polars_compute_reductions.specs.Sum.{total}
use Rattle.polars_compute_slots.specs.State.{all_seen, appended, new_state, truth_numbers}
use Rattle.polars_compute_slots.specs.State.{truth_row}
use Rattle.polars_tables_operations.specs.declared.operation.Calculation.{Calculation}
use Rattle.polars_tables_operations.specs.declared.operation.ComparisonKind.{ComparisonKind}
use Rattle.polars_tables_operations.specs.declared.operation.Distinct.{Distinct}
use Rattle.polars_tables_operations.specs.declared.operation.GeneralOperation.{GeneralOperation}
use Rattle.polars_tables_operations.specs.declared.operation.GeneralOperation.TheVariants.{Compare}
use Rattle.polars_tables_operations.specs.declared.operation.GeneralOperation.TheVariants.{
  CountBits,
}
use Rattle.polars_tables_operations.specs.declared.operation.GeneralOperation.TheVariants.{Reduce}
use Rattle.polars_tables_operations.specs.declared.operation.GeneralOperation.TheVariants.{Extremes}
use Rattle.polars_tables_operations.specs.declared.operation.NumericOperation.{NumericOperation}
use Rattle.polars_tables_operations.specs.declared.operation.NumericOperation.TheVariants.{Change}
use Rattle.polars_tables_operations.specs.declared.operation.NumericOperation.TheVariants.{
  Calculate,
}
use Rattle.polars_tables_operations.specs.declared.operation.NumericOperation.TheVariants.{
  CalculateFromScalar,
}
use Rattle.polars_tables_operations.specs.declared.operation.NumericOperation.TheVariants.{Sum}
use Rattle.polars_tables_operations.specs.declared.operation.NumericOperation.TheVariants.{
  DistinctInRange,
}
use Rattle.polars_tables_operations.specs.declared.operation.NumericOperation.TheVariants.{
  HasAllOfRange,
}
use Rattle.polars_tables_operations.specs.declared.operation.Operand.{Operand}
use Rattle.polars_tables_operations.specs.declared.operation.Operand.TheVariants.{Rows, Scalar}
use Rattle.polars_tables_operations.specs.declared.operation.Operation.{Operation}
use Rattle.polars_tables_operations.specs.declared.operation.Operation.TheVariants.{General}
use Rattle.polars_tables_operations.specs.declared.operation.Operation.TheVariants.{Numeric}
use Rattle.polars_tables_operations.specs.declared.operation.Operation.TheVariants.{DistinctTruths}
use Rattle.polars_tables_operations.specs.declared.operation.OrderedCalculation.{OrderedCalculation}
use Rattle.polars_tables_rows.specs.declared.fault.LineError.{LineError}
use Rattle.polars_tables_rows.specs.declared.fault.LineError.TheVariants.{Length}
use Rattle.polars_tables_rows.specs.declared.row_type.RowType.{RowType}
use Rattle.polars_tables_rows.specs.Faults.{of_ends, of_number_scalar, of_one, of_scalar, of_two}
use Rattle.polars_tables_rows.specs.Types.{least_in, width_of}
use Rattle.polars_tables_rows.specs.Written.{row_word, row_words}
use Rattle.polars_tables_operations.specs.Bits.{count_of}
use Rattle.polars_tables_operations.specs.Calculating.{calculation_of, change_of, ordered_of}
use Rattle.polars_tables_operations.specs.Comparing.{compared_rows}
use Rattle.polars_tables_operations.specs.Distinct.{asked_of, of_state}
use Rattle.polars_tables_operations.specs.Reducing.{best_row, reduction_of}

abbrev pub Answer : Type 0
Answer = Result (List ℕ) LineError

-- rows as words
abbrev pub told : List Row → Answer
told rows = Ok (row_words rows)

-- the result row by row for two lists of rows, which must have equal lengths
abbrev pub row_by_row : (List Row → List Row → List Row) → List Row → List Row → Answer
row_by_row rows left right =
    cond (length left == length right) (told (rows left right)) (Err Length)

-- the word of a row, or `none`
abbrev pub row_or_none : Option Row → List ℕ
row_or_none None = codes "none"
row_or_none (Some x) = row_word x

-- the words of two rows, or `none`
abbrev pub rows_or_none : Option Row → Option Row → List ℕ
rows_or_none (Some x) (Some y) = row_words (x ∷ y ∷ [])
rows_or_none x y = codes "none"

-- a comparison of two lists, or of a list with a scalar
abbrev pub comparison_answer : ComparisonKind → Operand → List Row → List Row → Answer
comparison_answer comparison Rows left right = row_by_row (compared_rows comparison) left right
comparison_answer comparison Scalar rows scalars = of_scalar scalars
    (λ x. told (compared_rows comparison rows (replicate (length rows) x)))

-- an operation on rows of any type
abbrev pub general_answer : GeneralOperation → RowType → List (List Row) → Answer
general_answer (Compare comparison operand) type lists =
    of_two lists (comparison_answer comparison operand)
general_answer (CountBits count) type lists = of_one lists
    (λ rows. told (map (counted (count_of count) (width_of type)) rows))
general_answer (Reduce reduction) type lists = of_one lists
    (λ rows. Ok (row_or_none (reduction_of reduction type rows)))
general_answer Extremes type lists = of_one lists
    (λ rows. Ok (rows_or_none (best_row row_less rows) (best_row row_greater rows)))

-- a calculation with the numbers of two lists, or of a list and a scalar
abbrev pub calculation_answer : Calculation → Operand → RowType → List Row → List Row → Answer
calculation_answer calculation Rows type left right =
    row_by_row (result_rows (least_in type) (width_of type) (calculation_of calculation)) left right
calculation_answer calculation Scalar type rows scalars =
    of_number_scalar scalars
    (λ n. told
    (answer_rows (least_in type) (width_of type) (λ a. calculation_of calculation a n) rows))

-- a calculation with a scalar on the left
abbrev pub scalar_calculation_answer : OrderedCalculation → RowType → List Row → List Row → Answer
scalar_calculation_answer calculation type scalars rows =
    of_number_scalar scalars
    (λ n. told (answer_rows (least_in type) (width_of type) (ordered_of calculation n) rows))

-- an operation on rows of a type of numbers
abbrev pub numeric_answer : NumericOperation → RowType → List (List Row) → Answer
numeric_answer (Change change) type lists = of_one lists
    (λ rows. told (answer_rows (least_in type) (width_of type) (change_of change) rows))
numeric_answer (Calculate calculation operand) type lists =
    of_two lists (calculation_answer calculation operand type)
numeric_answer (CalculateFromScalar calculation) type lists =
    of_two lists (scalar_calculation_answer calculation type)
numeric_answer Sum type lists = of_one lists
    (λ rows. told (Int (wrapped (least_in type) (width_of type) (total rows)) ∷ []))
numeric_answer (DistinctInRange asked) type lists =
    of_two lists (λ ends rows. of_ends ends
    (λ m n. of_state m n rows (λ s. told (asked_of Int asked s))))
numeric_answer HasAllOfRange type lists =
    of_two lists (λ ends rows. of_ends ends
    (λ m n. of_state m n rows (λ s. told (Truth (all_seen s) ∷ []))))

-- the distinct rows of a list of truth values
abbrev pub truths_answer : Distinct → List (List Row) → Answer
truths_answer asked lists = of_one lists
    (λ rows. told (asked_of truth_row asked (appended rows (new_state truth_numbers))))

-- the result of an operation for its lists of rows of a type
abbrev pub answer_of : Operation → RowType → List (List Row) → Answer
answer_of (General operation) type lists = general_answer operation type lists
answer_of (Numeric operation) type lists = numeric_answer operation type lists
answer_of (DistinctTruths asked) type lists = truths_answer asked lists
