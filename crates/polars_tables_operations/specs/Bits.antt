-- Counts of the bits of rows, and rows made of bits.
use Rattle.std.specs.Prelude.{◌+◌, ◌*◌, ℕ, pos, Bool, false, cond, not, List, [], ◌∷◌, count_by}
use Rattle.polars_arrays_flat.specs.Row.{Row, Int, Truth}
use Rattle.polars_arrays_numbers.specs.Wrapping.{wrapped}
use Rattle.polars_compute_reductions.specs.Bitwise.{leading_run, trailing_run}
use Rattle.polars_tables_operations.specs.declared.operation.BitCount.{BitCount}
use Rattle.polars_tables_operations.specs.declared.operation.BitCount.TheVariants.{Ones, Zeros}
use Rattle.polars_tables_operations.specs.declared.operation.BitCount.TheVariants.{LeadingOnes}
use Rattle.polars_tables_operations.specs.declared.operation.BitCount.TheVariants.{LeadingZeros}
use Rattle.polars_tables_operations.specs.declared.operation.BitCount.TheVariants.{TrailingOnes}
use Rattle.polars_tables_operations.specs.declared.operation.BitCount.TheVariants.{TrailingZeros}
use Rattle.polars_tables_rows.specs.declared.row_type.RowType.{RowType}
use Rattle.polars_tables_rows.specs.Types.{is_boolean, least_in, width_of}

-- the count of bits of one kind; the first bit is the lowest
abbrev pub count_of : BitCount → List Bool → ℕ
count_of Ones = count_by (λ b. b)
count_of Zeros = count_by not
count_of LeadingOnes = leading_run (λ b. b)
count_of LeadingZeros = leading_run not
count_of TrailingOnes = trailing_run (λ b. b)
count_of TrailingZeros = trailing_run not

-- the number of bits, the lowest first
abbrev pub bits_value : List Bool → ℕ
bits_value [] = 0
bits_value (b ∷ bits) = cond b 1 0 + 2 * bits_value bits

-- the lowest bit
abbrev pub lowest_bit : List Bool → Bool
lowest_bit [] = false
lowest_bit (b ∷ bits) = b

-- the row of a type that has these bits
abbrev pub bits_row : RowType → List Bool → Row
bits_row type bits =
    cond (is_boolean type) (Truth (lowest_bit bits))
    (Int (wrapped (least_in type) (width_of type) (pos (bits_value bits))))
