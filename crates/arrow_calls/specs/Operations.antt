-- Operations on columns, by their numbers in C.
--
-- Comparison 1 is `Unequal`, count 3 is `LeadingZeros`, operator 2 is `Xor`, and nothing has number
-- 6.
use Rattle.std.specs.Prelude.{ℕ, List, [], ◌∷◌, Option, Some, None, slice_index_or}
use Rattle.arrow_columns.specs.declared.comparing.Test.{Test}
use Rattle.arrow_columns.specs.declared.comparing.Test.TheVariants as test
use Rattle.arrow_columns.specs.declared.counting.Counting.{Counting}
use Rattle.arrow_columns.specs.declared.counting.Counting.TheVariants as counting
use Rattle.arrow_columns.specs.declared.reducing.BitOperator.{BitOperator}
use Rattle.arrow_columns.specs.declared.reducing.BitOperator.TheVariants.{And, Or, Xor}

-- the comparisons by their numbers, from 0 on
abbrev pub tests : List (Option Test)
tests =
    Some test.Equal ∷ Some test.Unequal ∷ Some test.Less ∷ Some test.LessOrEqual ∷ Some test.Greater
    ∷ Some test.GreaterOrEqual ∷ []

-- the comparison with a number, or None
abbrev pub test_number : ℕ → Option Test
test_number n = slice_index_or tests n None

-- the counts by their numbers, from 0 on
abbrev pub countings : List (Option Counting)
countings =
    Some counting.Ones ∷ Some counting.Zeros ∷ Some counting.LeadingOnes ∷ Some
    counting.LeadingZeros
    ∷ Some counting.TrailingOnes ∷ Some counting.TrailingZeros ∷ []

-- the count with a number, or None
abbrev pub counting_number : ℕ → Option Counting
counting_number n = slice_index_or countings n None

-- the operator with a number, or None
abbrev pub operator_number : ℕ → Option BitOperator
operator_number n = slice_index_or (Some And ∷ Some Or ∷ Some Xor ∷ []) n None
