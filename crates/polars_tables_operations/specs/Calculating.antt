-- Calculations with numbers.
use Rattle.polars_compute_arithmetic.specs.Operations.{Function, Operation, difference_of}
use Rattle.polars_compute_arithmetic.specs.Operations.{floor_division, magnitude_of, modulo}
use Rattle.polars_compute_arithmetic.specs.Operations.{negation_of, product_of, sum_of}
use Rattle.polars_compute_arithmetic.specs.Operations.{truncated_division}
use Rattle.polars_tables_operations.specs.declared.operation.Calculation.{Calculation}
use Rattle.polars_tables_operations.specs.declared.operation.Calculation.TheVariants.{Add, Multiply}
use Rattle.polars_tables_operations.specs.declared.operation.Calculation.TheVariants.{Ordered}
use Rattle.polars_tables_operations.specs.declared.operation.Change.{Change}
use Rattle.polars_tables_operations.specs.declared.operation.Change.TheVariants.{Magnitude}
use Rattle.polars_tables_operations.specs.declared.operation.Change.TheVariants.{Negation}
use Rattle.polars_tables_operations.specs.declared.operation.OrderedCalculation.{OrderedCalculation}
use Rattle.polars_tables_operations.specs.declared.operation.OrderedCalculation.TheVariants.{
  Subtract,
}
use Rattle.polars_tables_operations.specs.declared.operation.OrderedCalculation.TheVariants.{
  FloorDivide,
}
use Rattle.polars_tables_operations.specs.declared.operation.OrderedCalculation.TheVariants.{
  TruncatedDivide,
}
use Rattle.polars_tables_operations.specs.declared.operation.OrderedCalculation.TheVariants.{Modulo}
use Rattle.polars_tables_operations.specs.declared.operation.OrderedCalculation.TheVariants.{
  LegacyDivide,
}

-- a function of one number
abbrev pub change_of : Change → Function
change_of Magnitude = magnitude_of
change_of Negation = negation_of

-- a calculation with two numbers whose order matters
abbrev pub ordered_of : OrderedCalculation → Operation
ordered_of Subtract = difference_of
ordered_of FloorDivide = floor_division
ordered_of TruncatedDivide = truncated_division
ordered_of Modulo = modulo
ordered_of LegacyDivide = floor_division

-- a calculation with two numbers
abbrev pub calculation_of : Calculation → Operation
calculation_of Add = sum_of
calculation_of Multiply = product_of
calculation_of (Ordered ordered) = ordered_of ordered
