-- Truth values written to flags, packed into a word, and appended to words.
use Rattle.std.specs.Prelude.{◌≡◌, ◌<◌, ◌≤◌, ◌+◌, ℕ, Bool, false, List, length, get_or, slice_index}
use Rattle.std.specs.Prelude.{slice_index_or, if◌then◌else◌}
use Rattle.polars_arrays_words.specs.Bits.{is_bit, bit_of}

-- n flags: flag i is 1 if i is before `to` and truth value `at + i` is true, and 0 otherwise
pub record IsMarked (n : ℕ) (flags : List ℕ) (values : List Bool) (at to : ℕ) : Type 0 where
  pub long : length flags ≡ n
  pub marked : (k : ℕ) → k < to → slice_index flags k
      ≡ (if slice_index_or values (at + k) false then 1 else 0)
  pub others : (k : ℕ) → to ≤ k → slice_index flags k ≡ 0

-- the lowest `count` bits of a word are the truth values from place `at` on; the other bits are 0
pub record IsPacked (word : ℕ) (values : List Bool) (at count : ℕ) : Type 0 where
  pub bits : (i : ℕ) → i < count → is_bit word i ≡ get_or values (at + i) false
  pub rest : (i : ℕ) → count ≤ i → i < 64 → is_bit word i ≡ false

-- the new words hold the first `count` truth values from bit `from` on, and the old bits before it
pub record AreAppended (old new : List ℕ) (from : ℕ) (values : List Bool) (count : ℕ) : Type 0 where
  pub long : length new ≡ length old
  pub before : (p : ℕ) → p < from → bit_of new p ≡ bit_of old p
  pub added : (i : ℕ) → i < count → bit_of new (from + i) ≡ get_or values i false
