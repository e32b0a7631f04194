-- Bits of bytes, as in the Arrow layout: bit 0 is the lowest bit of the first byte.
use Rattle.std.specs.Prelude.{ℕ, ◌+◌, ◌*◌, ◌/◌, ◌%◌, ◌^◌, ◌<◌, Bool, List, [], ◌∷◌, Option, Some}
use Rattle.std.specs.Prelude.{None, length, get_or, ⊤}
use Rattle.polars_arrays_words.specs.Bits.{is_bit, first_of}

-- bit p of bytes
abbrev pub byte_bit : List ℕ → ℕ → Bool
byte_bit bytes p = is_bit (get_or bytes (p / 8) 0) (p % 8)

-- the n bits from bit `at` on
abbrev pub byte_window : ℕ → ℕ → List ℕ → List Bool
byte_window at n bytes = first_of (λ i. byte_bit bytes (at + i)) n

-- each of the n bits from bit `at` on lies in the bytes, and its number is below 2^64
abbrev pub HoldBits : ℕ → ℕ → List ℕ → Type 0
HoldBits at n bytes =
    (i : ℕ) → i < n → (at + i < 8 * length bytes) × (at + i + 1 < 2 ^ 64)

-- which of n rows are present: those whose bit is 1, or all if there are no bytes
abbrev pub presence : ℕ → ℕ → List ℕ → Option (List Bool)
presence at n [] = None
presence at n (byte ∷ bytes) = Some (byte_window at n (byte ∷ bytes))

-- the bytes hold a bit for each of n rows, or there are none
abbrev pub HoldPresence : ℕ → ℕ → List ℕ → Type 0
HoldPresence at n [] = ⊤
HoldPresence at n (byte ∷ bytes) = HoldBits at n (byte ∷ bytes)
