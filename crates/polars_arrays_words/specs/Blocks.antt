-- Blocks of truth values, each reduced to one bit, which is 1 if all values of the block are true.
use Rattle.std.specs.Prelude.{◌≡◌, ℕ, ◌+◌, ◌*◌, ◌<◌, ◌≤◌, Bool, false, List, take, drop}
use Rattle.std.specs.List.{list_all}
use Rattle.polars_arrays_words.specs.Bits.{is_bit, first_of}

-- a truth value for each of n blocks of `width` bits: true if all bits of the block are true
abbrev pub blocks_all : ℕ → ℕ → List Bool → List Bool
blocks_all width n bits = first_of (λ i. list_all (λ b. b) (take width (drop (width * i) bits))) n

-- true if all values of f in block i are true; each block has `width` values
abbrev pub block_true : ℕ → (ℕ → Bool) → ℕ → Bool
block_true width f i = list_all (λ b. b) (first_of (λ j. f (width * i + j)) width)

-- bit i of `folded`, for i < count, says whether block i of the word is all 1; the other bits are 0
pub record IsFolded (width count word folded : ℕ) : Type 0 where
  pub bits : (i : ℕ) → i < count → is_bit folded i ≡ block_true width (is_bit word) i
  pub rest : (i : ℕ) → count ≤ i → i < 64 → is_bit folded i ≡ false
