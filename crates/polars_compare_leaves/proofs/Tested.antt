-- Tests of pairs, as bits.
use Rattle.std.proofs.Common.{◌≡◌, ◌<◌, ℕ, zero, suc, Bool, false, List, [], ◌∷◌, length, map, refl, arith, slice_index_or}
use Rattle.std.proofs.lemmas.List.FromFn.{length-map-range_with_len, get_or-map-range_with_len}
use Rattle.polars_arrays_bits.specs.Bits.{first_of}
use Rattle.polars_arrays_flat.specs.Row.{Row, Bytes}
use Rattle.polars_arrays_flat.specs.StoredRows.{byte_slots}
use Rattle.polars_compare_leaves.specs.Pairs.{ComparesPairs, compared_pair}

pub length-pairs : (f : ℕ → Bool) (n : ℕ) → length (first_of f n) ≡ n
length-pairs f n = length-map-range_with_len f 0 n

-- so a place among the pairs is below n
pub pair-within : (f : ℕ → Bool) (n k : ℕ) → k < length (first_of f n) → k < n
pair-within f n k lt = omega (arith, lt, length-pairs f n)

pub pair-at : (f : ℕ → Bool) (n k : ℕ) → k < n → slice_index_or (first_of f n) k false ≡ f k
pair-at f n k lt = get_or-map-range_with_len f 0 n k k false lt (omega arith)

-- the bits of all pairs
pub tests-all : (test : Row → Row → Bool) (xs ys : List (List ℕ)) (a b n : ℕ) (bits : List Bool) → bits ≡ first_of (compared_pair test xs ys a b) n → ComparesPairs test xs ys a b n bits
tests-all test xs ys a b n bits e = record {
  size = rw e (length-pairs (compared_pair test xs ys a b) n);
  at_each = λ k lt. rw e (pair-at (compared_pair test xs ys a b) n k lt);
}

-- the test of the row at one place
pub against-at : (test : Row → Bool) (xs : List (List ℕ)) (i : ℕ) → i < length (map test (byte_slots xs)) → slice_index_or (map test (byte_slots xs)) i false ≡ test (Bytes (slice_index_or xs i []))
against-at test [] i lt = absurd (omega arith)
against-at test (x ∷ xs) zero lt = refl
against-at test (x ∷ xs) (suc i) lt = against-at test xs i (omega arith)
