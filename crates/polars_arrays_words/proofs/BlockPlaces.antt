-- Where blocks of one width stand.
use Rattle.std.proofs.Common.{◌≡◌, ℕ, suc, ◌+◌, ◌*◌, ◌<◌, ◌≤◌, List, ap, arith}
use Rattle.std.proofs.Math.Nat.{mul-suc, mul-le-mul_left}
use Rattle.std.specs.List.{list_all}
use Rattle.polars_arrays_words.specs.Bits.{bit_of, window}
use Rattle.polars_arrays_words.specs.Blocks.{block_true}
use Rattle.polars_arrays_words.proofs.Firsts.{first_same}

-- block i ends within n blocks
pub block_end : (width i n : ℕ) → i < n → width * i + width ≤ width * n
block_end width i n lt =
    let le : suc i ≤ n = omega arith in
    omega (arith, mul-suc width i, mul-le-mul_left width le)

-- a block of words' bits is a run of them
pub block_run : (words : List ℕ) (by width i : ℕ) → list_all (λ b. b) (window (by + width * i) width words) ≡ block_true width (λ p. bit_of words (by + p)) i
block_run words by width i =
    ap (list_all (λ b. b))
    (first_same (λ j. bit_of words (by + width * i + j)) (λ j. bit_of words (by + (width * i + j))) width
    (λ j lt. let place : by + width * i + j ≡ by + (width * i + j) = omega arith in ap (bit_of words) place))
