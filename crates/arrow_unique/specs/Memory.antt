-- States of distinct values in a caller's memory.
use Rattle.std.specs.Prelude.{◌≡◌, ◌+ℤ◌, ◌%◌, ◌^◌, ◌<◌, ◌≤◌, ◌||◌, ℕ, ℤ, pos, eqb, not, List}
use Rattle.std.specs.Prelude.{length, map}
use Rattle.std.specs.Int.{w128, cast_unsigned}
use Rattle.std.specs.List.{range_with_len}
use Rattle.polars_arrays_flat.specs.Row.{Row}
use Rattle.polars_arrays_words.specs.Bits.{bit_of}
use Rattle.polars_compute_slots.specs.State.{State, holds}

-- the state of n numbers from `least` on: number i was seen if bit i of the words is 1, and a null
-- was if the flag is not 0
abbrev pub state_in : ℤ → ℕ → List ℕ → ℕ → State
state_in least n words flag = record {
  values = map (λ i. (least +ℤ pos i, bit_of words i)) (range_with_len 0 n);
  has_null = not (eqb flag 0);
}

-- new words and a flag hold a state of n numbers; the bits past these are the old ones
pub record Holds (least : ℤ) (n : ℕ) (old new : List ℕ) (flag : ℕ) (s : State) : Type 0 where
  pub state : state_in least n new flag ≡ s
  pub rest : (p : ℕ) → n ≤ p → bit_of new p ≡ bit_of old p

-- the lower 64 bits of a number in two's complement of 128 bits
abbrev pub low_word : ℤ → ℕ
low_word number = cast_unsigned w128 number % 2 ^ 64

-- ---- changes of words

-- of the bits of n numbers from `least` on, those that rows have are set too; others stay
pub record AreMarked (least : ℤ) (n : ℕ) (rows : List Row) (old new : List ℕ) : Type 0 where
  pub count : length new ≡ length old
  pub seen : (i : ℕ) → i < n → bit_of new i ≡ (bit_of old i || holds rows (least +ℤ pos i))
  pub rest : (p : ℕ) → n ≤ p → bit_of new p ≡ bit_of old p

-- of the first n bits, those that other words have are set too; others stay
pub record AreJoined (n : ℕ) (others old new : List ℕ) : Type 0 where
  pub seen : (i : ℕ) → i < n → bit_of new i ≡ (bit_of old i || bit_of others i)
  pub rest : (p : ℕ) → n ≤ p → bit_of new p ≡ bit_of old p
