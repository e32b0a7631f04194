-- Columns reduced to a number.
use Rattle.std.specs.Prelude.{ℕ, ℤ, Bool, cond, List, Option, Some, None}
use Rattle.std.specs.List.{list_all, list_any}
use Rattle.arrow_columns.specs.declared.reducing.BitOperator.{BitOperator}
use Rattle.arrow_columns.specs.declared.reducing.BitOperator.TheVariants.{And, Or, Xor}
use Rattle.polars_arrays_flat.specs.Row.{Row}
use Rattle.polars_compute_reductions.specs.Folds.{none_present}
use Rattle.polars_arrays_numbers.specs.Wrapping.{wrapped}
use Rattle.polars_compute_reductions.specs.Bitwise.{is_odd}
use Rattle.polars_compute_reductions.specs.Sum.{total}

-- the sum of the present rows, wrapped to a type; None if no row is present
abbrev pub sum_if_any : ℤ → ℕ → List Row → Option ℤ
sum_if_any least width rows =
    cond (none_present rows) None (Some (wrapped least width (total rows)))

-- the bit that an operator makes of the bits of all rows at a place
abbrev pub joins_bits : BitOperator → List Bool → Bool
joins_bits And = list_all (λ b. b)
joins_bits Or = list_any (λ b. b)
joins_bits Xor = is_odd
