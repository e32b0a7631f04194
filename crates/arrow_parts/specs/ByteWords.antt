-- Bytes in words of 64 bits.
use Rattle.std.specs.Prelude.{◌≡◌, ℕ, ◌+◌, ◌*◌, ◌<◌, ◌≤◌, false, List}
use Rattle.polars_arrays_words.specs.Bits.{bit_of, is_bit}
use Rattle.arrow_parts.specs.ByteBits.{byte_bit}

-- a word holds the `count` bytes from byte `at` on, with zeros above them
pub record IsBytes (bytes : List ℕ) (at count word : ℕ) : Type 0 where
  pub bits : (i : ℕ) → i < 8 * count → is_bit word i ≡ byte_bit bytes (8 * at + i)
  pub rest : (i : ℕ) → 8 * count ≤ i → i < 64 → is_bit word i ≡ false

-- words hold the first n bytes
pub record HaveBytes (bytes : List ℕ) (n : ℕ) (words : List ℕ) : Type 0 where
  pub bits : (p : ℕ) → p < 8 * n → bit_of words p ≡ byte_bit bytes p
