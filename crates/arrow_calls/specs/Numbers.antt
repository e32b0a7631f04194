-- Whole numbers in the caller's memory, in two's complement of 128 bits.
--
-- The words of 5 are 5 and 0, and those of -1 are both 2 ^ 64 - 1.
use Rattle.std.specs.Prelude.{◌+◌, ◌*◌, ◌/◌, ◌%◌, ◌^◌, ℕ, ℤ, Option, Some, None}
use Rattle.std.specs.Int.{w128, cast_signed, cast_unsigned}
use Rattle.arrow_calls.specs.declared.number.Number.{Number}

-- the low and the high word of a whole number, or of none
abbrev pub number_words : Option ℤ → Number
number_words None = record { low = 0; high = 0; exists = 0 }
number_words (Some n) = record {
  low = cast_unsigned w128 n % 2 ^ 64;
  high = cast_unsigned w128 n / 2 ^ 64;
  exists = 1;
}

-- the whole number of a low and a high word
abbrev pub words_number : ℕ → ℕ → ℤ
words_number low high = cast_signed w128 (low + 2 ^ 64 * high)
