-- Values that stand apart in a word, moved together, and blocks of bits folded to one bit each.
use Rattle.std.proofs.Common.{◌≡◌, ℕ, suc, ◌+◌, ◌*◌, ◌/◌, ◌%◌, ◌^◌, ◌<◌, ◌≤◌, Bool, false, eqb, ◌&&◌, ◌||◌, List, get_or, bit_and, bit_or, sym, ap, ap₂, ◌∙◌, arith}
use Rattle.std.proofs.Math.Bool.{and-true, and-false, or-false}
use Rattle.std.proofs.Math.Dec.{leb}
use Rattle.std.proofs.lemmas.Bool.{cases_lt, le-leb, lt-leb}
use Rattle.std.specs.List.{list_all}
use mathlib.Core.Logic.{⊎_elim}
use Rattle.polars_arrays_words.specs.Bits.{is_bit, bit_of, first_of, IsWord}
use Rattle.polars_arrays_words.specs.Blocks.{block_true}
use Rattle.polars_arrays_words.specs.Packing.{IsPacked}
use Rattle.polars_arrays_words.proofs.Firsts.{get_or-first, first_same}
use Rattle.polars_arrays_words.proofs.OperatorBits.{is_bit_and, is_bit_or}
use Rattle.polars_arrays_words.proofs.SingleBits.{bit_at-shr}

pub is_bit-shr : (word by i : ℕ) → is_bit (word / 2 ^ by) i ≡ is_bit word (by + i)
is_bit-shr word by i = ap (λ b. eqb b 1) (bit_at-shr word by i)

-- `(word | (word >> by)) & mask`
pub gathered : (word by mask i : ℕ) → is_bit (bit_and (bit_or word (word / 2 ^ by)) mask) i ≡ ((is_bit word i || is_bit word (by + i)) && is_bit mask i)
gathered word by mask i =
    is_bit_and (bit_or word (word / 2 ^ by)) mask i
    ∙ ap (λ b. b && is_bit mask i) (is_bit_or word (word / 2 ^ by) i ∙ ap (λ b. is_bit word i || b) (is_bit-shr word by i))

-- `word & (word >> 1)`
pub pair_bit : (word i : ℕ) → is_bit (bit_and word (word / 2 ^ 1)) i ≡ (is_bit word i && is_bit word (1 + i))
pair_bit word i = is_bit_and word (word / 2 ^ 1) i ∙ ap (λ b. is_bit word i && b) (is_bit-shr word 1 i)

-- ---- values that stand apart in a word

-- c values of f from each multiple of s on, and zeros between them
pub record IsSpread (f : ℕ → Bool) (s c word : ℕ) : Type 0 where
  pub bits : (i : ℕ) → i < 64 → i % s < c → is_bit word i ≡ f (c * (i / s) + i % s)
  pub gaps : (i : ℕ) → i < 64 → c ≤ i % s → is_bit word i ≡ false

-- a mask of e ones from each multiple of d on
abbrev pub IsMask : (mask d e : ℕ) → Type 0
IsMask mask d e = (i : ℕ) → i < 64 → is_bit mask i ≡ leb (suc (i % d)) e

pub mask-by : (mask d e : ℕ) → first_of (is_bit mask) 64 ≡ first_of (λ i. leb (suc (i % d)) e) 64 → IsMask mask d e
mask-by mask d e same i lt =
    sym (get_or-first (is_bit mask) 64 i false lt) ∙ ap (λ l. get_or l i false) same ∙ get_or-first (λ j. leb (suc (j % d)) e) 64 i false lt

-- where the values stand once those from each second multiple of s on are moved down by `by`
pub record IsStep (s c by d e : ℕ) : Type 0 where
  pub first : (i : ℕ) → i < 64 → i % d < c → (i % s < c) × (c * (i / s) + i % s ≡ e * (i / d) + i % d) × (by + i < 64) × (c ≤ (by + i) % s)
  pub second : (i : ℕ) → i < 64 → c ≤ i % d → i % d < e → (c ≤ i % s) × (by + i < 64) × ((by + i) % s < c) × (c * ((by + i) / s) + (by + i) % s ≡ e * (i / d) + i % d)

-- the step is taken
pub moved :
    (f : ℕ → Bool) (s c by d e mask word result : ℕ) → IsStep s c by d e → IsMask mask d e → IsSpread f s c word →
    ((i : ℕ) → i < 64 → is_bit result i ≡ ((is_bit word i || is_bit word (by + i)) && is_bit mask i)) → IsSpread f d e result
moved f s c by d e mask word result step is_mask spread joined = record {
  bits = λ i lt low.
      joined i lt
      ∙ ap (λ b. (is_bit word i || is_bit word (by + i)) && b) (is_mask i lt ∙ le-leb (suc (i % d)) e (omega arith))
      ∙ and-true (is_bit word i || is_bit word (by + i))
      ∙ ⊎_elim
      (λ below.
      let h = step.first i lt below in
      ap₂ ◌||◌ (spread.bits i lt h.0 ∙ ap f h.1) (spread.gaps (by + i) h.2 h.3) ∙ or-false (f (e * (i / d) + i % d)))
      (λ past. let h = step.second i lt past low in ap₂ ◌||◌ (spread.gaps i lt h.0) (spread.bits (by + i) h.1 h.2 ∙ ap f h.3))
      (cases_lt (i % d) c);
  gaps = λ i lt high.
      joined i lt
      ∙ ap (λ b. (is_bit word i || is_bit word (by + i)) && b) (is_mask i lt ∙ lt-leb (suc (i % d)) e (omega arith))
      ∙ and-false (is_bit word i || is_bit word (by + i));
}

-- ---- blocks

pub block-same : (width : ℕ) (f g : ℕ → Bool) (i k : ℕ) → ((u : ℕ) → u < width → f (width * i + u) ≡ g (width * k + u)) → block_true width f i ≡ block_true width g k
block-same width f g i k same = ap (list_all (λ b. b)) (first_same (λ u. f (width * i + u)) (λ u. g (width * k + u)) width same)

-- a bit of one word of a list, whose bits are values of g
pub in_word : (g : ℕ → Bool) (words : List ℕ) (j n word p q : ℕ) → get_or words j 0 ≡ word → IsWord g n word → p / 64 ≡ j → 64 * n + p % 64 ≡ q → bit_of words p ≡ g q
in_word g words j n word p q is_word is number place =
    ap (λ k. is_bit (get_or words k 0) (p % 64)) number ∙ ap (λ w. is_bit w (p % 64)) is_word ∙ is.bits (p % 64) (omega arith) ∙ ap g place

-- the blocks of words, as the bits of a word
pub all-packed : (width : ℕ) (words : List ℕ) (word i : ℕ) → i < 64 → IsPacked word (first_of (block_true width (bit_of words)) 64) 0 64 → is_bit word i ≡ block_true width (bit_of words) i
all-packed width words word i lt packed =
    let place : 0 + i ≡ i = omega arith in
    packed.bits i lt ∙ get_or-first (block_true width (bit_of words)) 64 (0 + i) false (omega arith) ∙ ap (block_true width (bit_of words)) place
