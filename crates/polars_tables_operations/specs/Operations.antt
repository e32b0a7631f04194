-- The operations: their names, and the types of rows that they accept.
use Rattle.std.specs.Prelude.{ℕ, Bool, true, not, List, [], ◌∷◌, codes, Option}
use Rattle.polars_tables_operations.specs.declared.operation.BitCount.TheVariants.{Ones, Zeros}
use Rattle.polars_tables_operations.specs.declared.operation.BitCount.TheVariants.{LeadingOnes}
use Rattle.polars_tables_operations.specs.declared.operation.BitCount.TheVariants.{LeadingZeros}
use Rattle.polars_tables_operations.specs.declared.operation.BitCount.TheVariants.{TrailingOnes}
use Rattle.polars_tables_operations.specs.declared.operation.BitCount.TheVariants.{TrailingZeros}
use Rattle.polars_tables_operations.specs.declared.operation.Calculation.TheVariants.{Add, Multiply}
use Rattle.polars_tables_operations.specs.declared.operation.Calculation.TheVariants.{Ordered}
use Rattle.polars_tables_operations.specs.declared.operation.Change.TheVariants.{Magnitude}
use Rattle.polars_tables_operations.specs.declared.operation.Change.TheVariants.{Negation}
use Rattle.polars_tables_operations.specs.declared.operation.ComparisonKind.TheVariants.{Equal, Unequal}
use Rattle.polars_tables_operations.specs.declared.operation.ComparisonKind.TheVariants.{Less}
use Rattle.polars_tables_operations.specs.declared.operation.ComparisonKind.TheVariants.{LessOrEqual}
use Rattle.polars_tables_operations.specs.declared.operation.ComparisonKind.TheVariants.{Greater}
use Rattle.polars_tables_operations.specs.declared.operation.ComparisonKind.TheVariants.{GreaterOrEqual}
use Rattle.polars_tables_operations.specs.declared.operation.ComparisonKind.TheVariants.{EqualMissing}
use Rattle.polars_tables_operations.specs.declared.operation.ComparisonKind.TheVariants.{UnequalMissing}
use Rattle.polars_tables_operations.specs.declared.operation.Distinct.TheVariants.{Listed, Counted}
use Rattle.polars_tables_operations.specs.declared.operation.Distinct.TheVariants.{PresentCounted}
use Rattle.polars_tables_operations.specs.declared.operation.GeneralOperation.TheVariants.{Compare}
use Rattle.polars_tables_operations.specs.declared.operation.GeneralOperation.TheVariants.{
  CountBits,
}
use Rattle.polars_tables_operations.specs.declared.operation.GeneralOperation.TheVariants.{Reduce}
use Rattle.polars_tables_operations.specs.declared.operation.GeneralOperation.TheVariants.{Extremes}
use Rattle.polars_tables_operations.specs.declared.operation.NumericOperation.TheVariants.{Change}
use Rattle.polars_tables_operations.specs.declared.operation.NumericOperation.TheVariants.{
  Calculate,
}
use Rattle.polars_tables_operations.specs.declared.operation.NumericOperation.TheVariants.{
  CalculateFromScalar,
}
use Rattle.polars_tables_operations.specs.declared.operation.NumericOperation.TheVariants.{Sum}
use Rattle.polars_tables_operations.specs.declared.operation.NumericOperation.TheVariants.{
  DistinctInRange,
}
use Rattle.polars_tables_operations.specs.declared.operation.NumericOperation.TheVariants.{
  HasAllOfRange,
}
use Rattle.polars_tables_operations.specs.declared.operation.Operand.TheVariants.{Rows, Scalar}
use Rattle.polars_tables_operations.specs.declared.operation.Operation.{Operation}
use Rattle.polars_tables_operations.specs.declared.operation.Operation.TheVariants.{General}
use Rattle.polars_tables_operations.specs.declared.operation.Operation.TheVariants.{Numeric}
use Rattle.polars_tables_operations.specs.declared.operation.Operation.TheVariants.{DistinctTruths}
use Rattle.polars_tables_operations.specs.declared.operation.OrderedCalculation.TheVariants.{
  Subtract,
}
use Rattle.polars_tables_operations.specs.declared.operation.OrderedCalculation.TheVariants.{
  FloorDivide,
}
use Rattle.polars_tables_operations.specs.declared.operation.OrderedCalculation.TheVariants.{
  TruncatedDivide,
}
use Rattle.polars_tables_operations.specs.declared.operation.OrderedCalculation.TheVariants.{Modulo}
use Rattle.polars_tables_operations.specs.declared.operation.OrderedCalculation.TheVariants.{
  LegacyDivide,
}
use Rattle.polars_tables_operations.specs.declared.operation.Reduction.TheVariants.{And, Or, Xor}
use Rattle.polars_tables_operations.specs.declared.operation.Reduction.TheVariants.{Least, Greatest}
use Rattle.polars_tables_rows.specs.declared.row_type.RowType.{RowType}
use Rattle.polars_tables_rows.specs.Tables.{find}
use Rattle.polars_tables_rows.specs.Types.{is_boolean}

-- the operations by name
abbrev pub operations : List (List ℕ × Operation)
operations = (codes "eq", General (Compare Equal Rows))
    ∷ (codes "ne", General (Compare Unequal Rows))
    ∷ (codes "lt", General (Compare Less Rows))
    ∷ (codes "le", General (Compare LessOrEqual Rows))
    ∷ (codes "gt", General (Compare Greater Rows))
    ∷ (codes "ge", General (Compare GreaterOrEqual Rows))
    ∷ (codes "eq_missing", General (Compare EqualMissing Rows))
    ∷ (codes "ne_missing", General (Compare UnequalMissing Rows))
    ∷ (codes "eq_broadcast", General (Compare Equal Scalar))
    ∷ (codes "ne_broadcast", General (Compare Unequal Scalar))
    ∷ (codes "lt_broadcast", General (Compare Less Scalar))
    ∷ (codes "le_broadcast", General (Compare LessOrEqual Scalar))
    ∷ (codes "gt_broadcast", General (Compare Greater Scalar))
    ∷ (codes "ge_broadcast", General (Compare GreaterOrEqual Scalar))
    ∷ (codes "eq_missing_broadcast", General (Compare EqualMissing Scalar))
    ∷ (codes "ne_missing_broadcast", General (Compare UnequalMissing Scalar))
    ∷ (codes "abs", Numeric (Change Magnitude))
    ∷ (codes "neg", Numeric (Change Negation))
    ∷ (codes "add", Numeric (Calculate Add Rows))
    ∷ (codes "sub", Numeric (Calculate (Ordered Subtract) Rows))
    ∷ (codes "mul", Numeric (Calculate Multiply Rows))
    ∷ (codes "floor_div", Numeric (Calculate (Ordered FloorDivide) Rows))
    ∷ (codes "trunc_div", Numeric (Calculate (Ordered TruncatedDivide) Rows))
    ∷ (codes "mod", Numeric (Calculate (Ordered Modulo) Rows))
    ∷ (codes "legacy_div", Numeric (Calculate (Ordered LegacyDivide) Rows))
    ∷ (codes "add_scalar", Numeric (Calculate Add Scalar))
    ∷ (codes "sub_scalar", Numeric (Calculate (Ordered Subtract) Scalar))
    ∷ (codes "mul_scalar", Numeric (Calculate Multiply Scalar))
    ∷ (codes "floor_div_scalar", Numeric (Calculate (Ordered FloorDivide) Scalar))
    ∷ (codes "trunc_div_scalar", Numeric (Calculate (Ordered TruncatedDivide) Scalar))
    ∷ (codes "mod_scalar", Numeric (Calculate (Ordered Modulo) Scalar))
    ∷ (codes "legacy_div_scalar", Numeric (Calculate (Ordered LegacyDivide) Scalar))
    ∷ (codes "sub_scalar_lhs", Numeric (CalculateFromScalar Subtract))
    ∷ (codes "floor_div_scalar_lhs", Numeric (CalculateFromScalar FloorDivide))
    ∷ (codes "trunc_div_scalar_lhs", Numeric (CalculateFromScalar TruncatedDivide))
    ∷ (codes "mod_scalar_lhs", Numeric (CalculateFromScalar Modulo))
    ∷ (codes "legacy_div_scalar_lhs", Numeric (CalculateFromScalar LegacyDivide))
    ∷ (codes "count_ones", General (CountBits Ones))
    ∷ (codes "count_zeros", General (CountBits Zeros))
    ∷ (codes "leading_ones", General (CountBits LeadingOnes))
    ∷ (codes "leading_zeros", General (CountBits LeadingZeros))
    ∷ (codes "trailing_ones", General (CountBits TrailingOnes))
    ∷ (codes "trailing_zeros", General (CountBits TrailingZeros))
    ∷ (codes "reduce_and", General (Reduce And))
    ∷ (codes "reduce_or", General (Reduce Or))
    ∷ (codes "reduce_xor", General (Reduce Xor))
    ∷ (codes "min", General (Reduce Least))
    ∷ (codes "max", General (Reduce Greatest))
    ∷ (codes "min_max", General Extremes)
    ∷ (codes "sum", Numeric Sum)
    ∷ (codes "unique", DistinctTruths Listed)
    ∷ (codes "n_unique", DistinctTruths Counted)
    ∷ (codes "n_unique_non_null", DistinctTruths PresentCounted)
    ∷ (codes "unique_range", Numeric (DistinctInRange Listed))
    ∷ (codes "n_unique_range", Numeric (DistinctInRange Counted))
    ∷ (codes "n_unique_non_null_range", Numeric (DistinctInRange PresentCounted))
    ∷ (codes "seen_all_range", Numeric HasAllOfRange)
    ∷ []

-- the operation of a name
abbrev pub operation_of : List ℕ → Option Operation
operation_of name = find operations name

-- whether an operation accepts rows of the type
abbrev pub takes : Operation → RowType → Bool
takes (General operation) type = true
takes (Numeric operation) type = not (is_boolean type)
takes (DistinctTruths asked) type = is_boolean type

-- the number of lists of rows of an operation
abbrev pub lists_taken : Operation → ℕ
lists_taken (General (Compare comparison operand)) = 2
lists_taken (General operation) = 1
lists_taken (Numeric (Change change)) = 1
lists_taken (Numeric Sum) = 1
lists_taken (Numeric operation) = 2
lists_taken (DistinctTruths asked) = 1
