-- Bits that are written into words.
use Rattle.std.specs.Prelude.{◌≡◌, ◌≤◌, ◌*◌, ℕ, Bool, false, List, length, slice_index_or}
use Rattle.polars_arrays_words.specs.Bits.{bit_of}

-- the words hold the bits, and zeros past them
pub record AreWritten (bits : List Bool) (words : List ℕ) : Type 0 where
  pub room : length bits ≤ 64 * length words
  pub each : (p : ℕ) → bit_of words p ≡ slice_index_or bits p false
