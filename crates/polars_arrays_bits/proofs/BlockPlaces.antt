-- Blocks of one width: the number of their results, and those of a window.
use Rattle.std.proofs.Common.{◌≡◌, ℕ, ◌+◌, ◌*◌, ◌≤◌, Bool, List, length, take, drop, arith, ap, ◌∙◌}
use Rattle.std.specs.List.{list_all}
use Rattle.polars_arrays_words.specs.Blocks.{blocks_all, block_true}
use Rattle.polars_arrays_words.proofs.Firsts.{length-first, first_same}
use Rattle.polars_arrays_words.specs.Bits.{bit_of, first_of, window}
use Rattle.polars_arrays_words.proofs.BlockPlaces.{block_end}
use Rattle.polars_arrays_bits.proofs.Windows.{window-part}

-- there are as many results as blocks
pub length-blocks : (width n : ℕ) (xs : List Bool) → length (blocks_all width n xs) ≡ n
length-blocks width n xs = length-first (λ i. list_all (λ b. b) (take width (drop (width * i) xs))) n

-- the blocks of a window's bits are those of the window
pub window-blocks :
    (words : List ℕ) (at len width n : ℕ) (xs : List Bool) → window at len words ≡ xs → width * n ≤ length xs →
    first_of (block_true width (λ p. bit_of words (at + p))) n ≡ blocks_all width n xs
window-blocks words at len width n xs e le =
    first_same (block_true width (λ p. bit_of words (at + p))) (λ i. list_all (λ b. b) (take width (drop (width * i) xs))) n
    (λ i lt.
    ap (list_all (λ b. b))
    (first_same (λ j. bit_of words (at + (width * i + j))) (λ j. bit_of words (at + width * i + j)) width
    (λ j below. let place : at + (width * i + j) ≡ at + width * i + j = omega arith in ap (bit_of words) place)
    ∙ window-part words at len (width * i) width xs e (omega (arith, block_end width i n lt))))
