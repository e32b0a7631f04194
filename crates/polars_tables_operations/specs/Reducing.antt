-- Reductions of the present rows of a list.
use Rattle.std.specs.Prelude.{◌&&◌, ◌||◌, Bool, cond, not, List, [], ◌∷◌, Option, None, Some}
use Rattle.std.specs.Prelude.{option_map}
use Rattle.std.specs.List.{list_all, list_any}
use Rattle.polars_arrays_flat.specs.ArrayRows.{is_null}
use Rattle.polars_arrays_flat.specs.Row.{Row}
use Rattle.polars_compare_leaves.specs.Order.{row_less, row_greater}
use Rattle.polars_compute_reductions.specs.Bitwise.{is_odd, reduced}
use Rattle.polars_tables_operations.specs.declared.operation.Reduction.{Reduction}
use Rattle.polars_tables_operations.specs.declared.operation.Reduction.TheVariants.{And, Or, Xor}
use Rattle.polars_tables_operations.specs.declared.operation.Reduction.TheVariants.{Least, Greatest}
use Rattle.polars_tables_rows.specs.declared.row_type.RowType.{RowType}
use Rattle.polars_tables_rows.specs.Types.{width_of}
use Rattle.polars_tables_operations.specs.Bits.{bits_row}

-- the first row that passes a test
abbrev pub first_row : (Row → Bool) → List Row → Option Row
first_row test [] = None
first_row test (row ∷ rows) = cond (test row) (Some row) (first_row test rows)

-- a row is present, and no present row is better
abbrev pub is_best : (Row → Row → Bool) → List Row → Row → Bool
is_best better rows x = not (is_null x) && list_all (λ y. is_null y || not (better y x)) rows

-- the best of the present rows
abbrev pub best_row : (Row → Row → Bool) → List Row → Option Row
best_row better rows = first_row (is_best better rows) rows

-- the row in which each bit is the test of that bit of the present rows
abbrev pub reduced_row : (List Bool → Bool) → RowType → List Row → Option Row
reduced_row test type rows = option_map (bits_row type) (reduced test (width_of type) rows)

-- the reduction of the rows of a type, if one is present
abbrev pub reduction_of : Reduction → RowType → List Row → Option Row
reduction_of And type rows = reduced_row (list_all (λ b. b)) type rows
reduction_of Or type rows = reduced_row (list_any (λ b. b)) type rows
reduction_of Xor type rows = reduced_row is_odd type rows
reduction_of Least type rows = best_row row_less rows
reduction_of Greatest type rows = best_row row_greater rows
