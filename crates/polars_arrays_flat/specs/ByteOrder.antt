-- The order of byte strings.
use Rattle.std.specs.Prelude.{◌<◌, ◌/◌, ℕ, zero, suc, Bool, List, [], ◌∷◌, get_or, slice_index}
use Rattle.std.specs.Cmp.Lexicographic.{slice_cmp}
use Rattle.std.specs.Int.{w32, from_be_bytes}
use Rattle.std.specs.Ordering.{nat_cmp, is_lt}

-- each element is a byte
abbrev pub AreBytes : List ℕ → Type 0
AreBytes xs = (k : ℕ) → get_or xs k 0 < 256

-- the first byte string is less: at the first place where they differ, or as a proper prefix
abbrev pub bytes_lt : List ℕ → List ℕ → Bool
bytes_lt xs ys = is_lt (slice_cmp nat_cmp xs ys)

-- the number of the first, the middle and the last of n bytes, most significant first; 0 if n is 0
abbrev pub few_number : ℕ → List ℕ → ℕ
few_number zero xs = 0
few_number (suc n) xs =
    from_be_bytes w32 (0 ∷ slice_index xs 0 ∷ slice_index xs (suc n / 2) ∷ slice_index xs n ∷ [])
