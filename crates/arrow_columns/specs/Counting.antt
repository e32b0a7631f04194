-- Counts of bits.
use Rattle.std.specs.Prelude.{ℕ, Bool, List, count_by, not}
use Rattle.arrow_columns.specs.declared.counting.Counting.{Counting}
use Rattle.arrow_columns.specs.declared.counting.Counting.TheVariants.{Ones, Zeros, LeadingOnes}
use Rattle.arrow_columns.specs.declared.counting.Counting.TheVariants.{LeadingZeros, TrailingOnes}
use Rattle.arrow_columns.specs.declared.counting.Counting.TheVariants.{TrailingZeros}
use Rattle.polars_compute_reductions.specs.Bitwise.{leading_run, trailing_run}

-- the number that a count gives for the bits of a number, the lowest bit first
abbrev pub counted_by : Counting → List Bool → ℕ
counted_by Ones = count_by (λ b. b)
counted_by Zeros = count_by not
counted_by LeadingOnes = leading_run (λ b. b)
counted_by LeadingZeros = leading_run not
counted_by TrailingOnes = trailing_run (λ b. b)
counted_by TrailingZeros = trailing_run not
