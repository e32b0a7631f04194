-- Comparisons of two rows.
use Rattle.std.specs.Prelude.{Bool, not, ◌&&◌, List, Option, Some, None}
use Rattle.std.specs.Simd.Lanes.{zip2}
use Rattle.arrow_columns.specs.declared.comparing.Test.{Test}
use Rattle.arrow_columns.specs.declared.comparing.Test.TheVariants as test
use Rattle.polars_arrays_flat.specs.ArrayRows.{is_null}
use Rattle.polars_arrays_flat.specs.Row.{Row}
use Rattle.polars_compare_leaves.specs.Order.{row_at_least, row_at_most, row_greater, row_less}
use Rattle.polars_compare_leaves.specs.Sameness.{other_row, same_row}

-- both rows are present, and a comparison holds of them
abbrev pub both : (Row → Row → Bool) → Row → Row → Bool
both holds x y = not (is_null x) && (not (is_null y) && holds x y)

-- a comparison holds of two rows: null is the same as null alone, and has no order
abbrev pub holds_of : Test → Row → Row → Bool
holds_of test.Equal = same_row
holds_of test.Unequal = other_row
holds_of test.Less = both row_less
holds_of test.LessOrEqual = both row_at_most
holds_of test.Greater = both row_greater
holds_of test.GreaterOrEqual = both row_at_least

-- bits, with false in place of those of masked rows
abbrev pub under : Option (List Bool) → List Bool → List Bool
under None bits = bits
under (Some present) bits = zip2 ◌&&◌ bits present
