-- Bits of a test of byte strings, pair by pair.
use Rattle.std.specs.Prelude.{◌≡◌, ◌<◌, ◌+◌, ℕ, Bool, false, List, [], length, slice_index_or}
use Rattle.polars_arrays_flat.specs.Row.{Row, Bytes}

-- the test of pair k: string a + k of the left list and string b + k of the right one
abbrev pub compared_pair : (Row → Row → Bool) → List (List ℕ) → List (List ℕ) → ℕ → ℕ → ℕ → Bool
compared_pair test xs ys a b k =
    test (Bytes (slice_index_or xs (a + k) [])) (Bytes (slice_index_or ys (b + k) []))

-- one bit for each of the first n pairs: the result of the test
pub record ComparesPairs (test : Row → Row → Bool) (xs ys : List (List ℕ)) (a b n : ℕ)
    (bits : List Bool) : Type 0 where
  pub size : length bits ≡ n
  pub at_each : (k : ℕ) → k < n → slice_index_or bits k false ≡ compared_pair test xs ys a b k
