-- The number of pairs of byte strings whose comparison reads buffers.
use Rattle.std.specs.Prelude.{ℕ, ◌+◌, Bool, List, [], if◌then◌else◌, slice_index_or}
use Rattle.polars_arrays_bits.specs.Costs.{cost_of}

-- the cost of pair k, strings a + k and b + k: 1 if its comparison reads buffers, else 0
abbrev pub pair_cost : (List ℕ → List ℕ → Bool) → List (List ℕ) → List (List ℕ) → ℕ → ℕ → ℕ → ℕ
pair_cost follows xs ys a b k =
    if follows (slice_index_or xs (a + k) []) (slice_index_or ys (b + k) []) then 1 else 0

-- the number of the first n pairs whose comparison reads buffers
abbrev pub followed : (List ℕ → List ℕ → Bool) → List (List ℕ) → List (List ℕ) → ℕ → ℕ → ℕ → ℕ
followed follows xs ys a b n = cost_of (pair_cost follows xs ys a b) 0 n
