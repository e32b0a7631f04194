-- Worked examples of the definitions: the check computes both sides of each.
use Rattle.std.specs.Prelude.{◌≡◌, ◌-◌, ◌^◌, pos, negsuc, Some, None, refl}
use Rattle.arrow_calls.specs.Numbers.{number_words, words_number}
use Rattle.arrow_calls.specs.Operations.{counting_number, operator_number, test_number}
use Rattle.arrow_calls.specs.Statuses.{fault_of, status_of}
use Rattle.arrow_calls.specs.declared.fault.Fault.TheVariants.{Room}
use Rattle.arrow_columns.specs.declared.comparing.Test.TheVariants as test
use Rattle.arrow_columns.specs.declared.counting.Counting.TheVariants as counting
use Rattle.arrow_columns.specs.declared.reducing.BitOperator.TheVariants as operator
use Rattle.arrow_parts.specs.declared.refused.Refused.TheVariants as refused

status_of-room : status_of Room ≡ pos 3
status_of-room = refl

fault_of-room : fault_of refused.Room ≡ Room
fault_of-room = refl

-- -1 is all ones
number_words-below_zero : number_words (Some (negsuc 0)) ≡ record { low = 2 ^ 64 - 1; high = 2 ^ 64 - 1; exists = 1 }
number_words-below_zero = refl

number_words-none : number_words None ≡ record { low = 0; high = 0; exists = 0 }
number_words-none = refl

words_number-below_zero : words_number (2 ^ 64 - 2) (2 ^ 64 - 1) ≡ negsuc 1
words_number-below_zero = refl

-- the numbers of operations in C
test_number-unequal : test_number 1 ≡ Some test.Unequal
test_number-unequal = refl

test_number-past_the_last : test_number 6 ≡ None
test_number-past_the_last = refl

counting_number-leading_zeros : counting_number 3 ≡ Some counting.LeadingZeros
counting_number-leading_zeros = refl

operator_number-xor : operator_number 2 ≡ Some operator.Xor
operator_number-xor = refl
