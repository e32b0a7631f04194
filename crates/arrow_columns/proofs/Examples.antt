-- Worked examples of the definitions: the check computes both sides of each.
use Rattle.std.specs.Prelude.{◌≡◌, pos, negsuc, true, false, [], ◌∷◌, Some, None, refl}
use Rattle.arrow_columns.specs.Comparing.{holds_of, under}
use Rattle.arrow_columns.specs.Counting.{counted_by}
use Rattle.arrow_columns.specs.Reductions.{joins_bits, sum_if_any}
use Rattle.arrow_columns.specs.declared.comparing.Test.TheVariants as test
use Rattle.arrow_columns.specs.declared.counting.Counting.TheVariants as counting
use Rattle.arrow_columns.specs.declared.reducing.BitOperator.TheVariants.{And, Or, Xor}
use Rattle.polars_arrays_flat.specs.Row.{Null, Int}

-- 100 + null + 100 is -56 in 8 bits with a sign
sum_if_any-wraps : sum_if_any (negsuc 127) 8 (Int (pos 100) ∷ Null ∷ Int (pos 100) ∷ []) ≡ Some (negsuc 55)
sum_if_any-wraps = refl

-- nulls alone have no sum, as no rows have
sum_if_any-nulls : sum_if_any (pos 0) 8 (Null ∷ Null ∷ []) ≡ None
sum_if_any-nulls = refl

sum_if_any-none : sum_if_any (pos 0) 8 [] ≡ None
sum_if_any-none = refl

-- null is equal to null alone
equal-nulls : holds_of test.Equal Null Null ≡ true
equal-nulls = refl

equal-null_number : holds_of test.Equal Null (Int (pos 0)) ≡ false
equal-null_number = refl

unequal-null_number : holds_of test.Unequal (Int (pos 0)) Null ≡ true
unequal-null_number = refl

-- null has no order, not even with itself
at_most-nulls : holds_of test.LessOrEqual Null Null ≡ false
at_most-nulls = refl

less-null_number : holds_of test.Less Null (Int (pos 1)) ≡ false
less-null_number = refl

less-numbers : holds_of test.Less (Int (negsuc 0)) (Int (pos 1)) ≡ true
less-numbers = refl

at_least-equal : holds_of test.GreaterOrEqual (Int (pos 1)) (Int (pos 1)) ≡ true
at_least-equal = refl

greater-equal : holds_of test.Greater (Int (pos 1)) (Int (pos 1)) ≡ false
greater-equal = refl

under-masked : under (Some (true ∷ false ∷ true ∷ [])) (true ∷ true ∷ false ∷ []) ≡ true ∷ false ∷ false ∷ []
under-masked = refl

-- the bits of three rows at a place, joined
joins_bits-and : joins_bits And (true ∷ false ∷ true ∷ []) ≡ false
joins_bits-and = refl

joins_bits-or : joins_bits Or (false ∷ false ∷ true ∷ []) ≡ true
joins_bits-or = refl

joins_bits-xor : joins_bits Xor (true ∷ false ∷ true ∷ []) ≡ false
joins_bits-xor = refl

-- 12 in 8 bits is 00001100, listed from the lowest bit
counted_by-ones : counted_by counting.Ones (false ∷ false ∷ true ∷ true ∷ false ∷ false ∷ false ∷ false ∷ []) ≡ 2
counted_by-ones = refl

counted_by-leading : counted_by counting.LeadingZeros (false ∷ false ∷ true ∷ true ∷ false ∷ false ∷ false ∷ false ∷ []) ≡ 4
counted_by-leading = refl

counted_by-trailing : counted_by counting.TrailingZeros (false ∷ false ∷ true ∷ true ∷ false ∷ false ∷ false ∷ false ∷ []) ≡ 2
counted_by-trailing = refl
