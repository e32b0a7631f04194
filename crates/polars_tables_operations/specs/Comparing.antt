-- The results of comparisons of rows.
use Rattle.std.specs.Prelude.{◌≡◌, ◌<◌, ◌||◌, ℕ, Bool, true, false, cond, List, length, Option}
use Rattle.std.specs.Prelude.{None, slice_index_or}
use Rattle.std.specs.Simd.Lanes.{zip2}
use Rattle.polars_arrays_flat.specs.ArrayRows.{is_null}
use Rattle.polars_arrays_flat.specs.Row.{Row, Null, Truth}
use Rattle.polars_arrays_flat.specs.StoredRows.{row}
use Rattle.polars_compare_leaves.specs.Sameness.{same_row, other_row}
use Rattle.polars_compare_leaves.specs.Order.{row_less, row_at_most, row_greater, row_at_least}
use Rattle.polars_compute_arithmetic.specs.Maps.{joined_validity}
use Rattle.polars_tables_operations.specs.declared.operation.ComparisonKind.{ComparisonKind}
use Rattle.polars_tables_operations.specs.declared.operation.ComparisonKind.TheVariants.{Equal, Unequal}
use Rattle.polars_tables_operations.specs.declared.operation.ComparisonKind.TheVariants.{Less}
use Rattle.polars_tables_operations.specs.declared.operation.ComparisonKind.TheVariants.{LessOrEqual}
use Rattle.polars_tables_operations.specs.declared.operation.ComparisonKind.TheVariants.{Greater}
use Rattle.polars_tables_operations.specs.declared.operation.ComparisonKind.TheVariants.{GreaterOrEqual}
use Rattle.polars_tables_operations.specs.declared.operation.ComparisonKind.TheVariants.{EqualMissing}
use Rattle.polars_tables_operations.specs.declared.operation.ComparisonKind.TheVariants.{UnequalMissing}

-- null if either row is null, else the test of the two
abbrev pub if_present : (Row → Row → Bool) → Row → Row → Row
if_present test x y = cond (is_null x || is_null y) Null (Truth (test x y))

-- the result of a comparison of two rows
abbrev pub compared : ComparisonKind → Row → Row → Row
compared Equal x y = if_present same_row x y
compared Unequal x y = if_present other_row x y
compared Less x y = if_present row_less x y
compared LessOrEqual x y = if_present row_at_most x y
compared Greater x y = if_present row_greater x y
compared GreaterOrEqual x y = if_present row_at_least x y
compared EqualMissing x y = Truth (same_row x y)
compared UnequalMissing x y = Truth (other_row x y)

-- a comparison of two lists of rows, place by place
abbrev pub compared_rows : ComparisonKind → List Row → List Row → List Row
compared_rows comparison left right = zip2 (compared comparison) left right

-- Bits of a comparison: one for each row, right if the result is a truth value, else arbitrary.
pub record ComparesRows (comparison : ComparisonKind) (left right : List Row) (bits : List Bool) :
    Type 0 where
  pub size : length bits ≡ length left
  pub at_truth : (i : ℕ) (truth : Bool) → i < length left
      → compared comparison (row left i) (row right i) ≡ Truth truth
      → slice_index_or bits i false ≡ truth

-- the last two comparisons, in which null is equal to null alone
abbrev pub is_missing : ComparisonKind → Bool
is_missing EqualMissing = true
is_missing UnequalMissing = true
is_missing comparison = false

-- the validity of the results of a comparison of two lists of rows with these validities
abbrev pub answer_validity : ComparisonKind → Option (List Bool) → Option (List Bool)
    → Option (List Bool)
answer_validity comparison left right =
    cond (is_missing comparison) None (joined_validity left right)
