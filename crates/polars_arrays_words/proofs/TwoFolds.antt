-- Pairs of bits of words, folded to one bit each.
use Rattle.std.proofs.Common.{◌≡◌, ℕ, suc, ◌+◌, ◌*◌, ◌/◌, ◌%◌, ◌^◌, ◌<◌, Bool, ◌&&◌, ◌||◌, false, List, [], ◌∷◌, get_or, bit_and, refl, sym, ap, ap₂, ◌∙◌, arith}
use Rattle.std.proofs.Math.Bool.{and-true, and-false}
use Rattle.std.proofs.lemmas.Bool.{cases_lt, le-leb, lt-leb}
use mathlib.Core.Logic.{⊎_elim}
use Rattle.polars_arrays_words.specs.Bits.{is_bit, bit_of, first_of, IsWord}
use Rattle.polars_arrays_words.specs.Blocks.{block_true, IsFolded}
use Rattle.polars_arrays_words.specs.Packing.{IsPacked}
use Rattle.polars_arrays_words.proofs.Firsts.{get_or-first}
use Rattle.polars_arrays_words.proofs.OperatorBits.{is_bit_and}
use Rattle.polars_arrays_words.proofs.Spreads.{IsSpread, IsMask, IsStep, pair_bit, mask-by, moved, block-same, in_word}

to_twos : IsStep 2 1 1 4 2
to_twos = record { first = λ i lt low. (omega arith, omega arith, omega arith, omega arith); second = λ i lt past low. (omega arith, omega arith, omega arith, omega arith) }

to_fours : IsStep 4 2 2 8 4
to_fours = record { first = λ i lt low. (omega arith, omega arith, omega arith, omega arith); second = λ i lt past low. (omega arith, omega arith, omega arith, omega arith) }

to_eights : IsStep 8 4 4 16 8
to_eights = record { first = λ i lt low. (omega arith, omega arith, omega arith, omega arith); second = λ i lt past low. (omega arith, omega arith, omega arith, omega arith) }

to_sixteens : IsStep 16 8 8 32 16
to_sixteens = record { first = λ i lt low. (omega arith, omega arith, omega arith, omega arith); second = λ i lt past low. (omega arith, omega arith, omega arith, omega arith) }

to_thirty_twos : IsStep 32 16 16 64 32
to_thirty_twos = record { first = λ i lt low. (omega arith, omega arith, omega arith, omega arith); second = λ i lt past low. (omega arith, omega arith, omega arith, omega arith) }

-- ---- the fold of a word

two_is : (f : ℕ → Bool) (q i : ℕ) → 2 * q ≡ i → (f i && f (1 + i)) ≡ block_true 2 f q
two_is f q i e =
    let zeroth : i ≡ 2 * q + 0 = omega arith in
    let first : 1 + i ≡ 2 * q + 1 = omega arith in
    ap₂ ◌&&◌ (ap f zeroth) (ap f first ∙ sym (and-true (f (2 * q + 1))))

every_second : (word : ℕ) → IsSpread (block_true 2 (is_bit word)) 2 1 (bit_and (bit_and word (word / 2 ^ 1)) 6148914691236517205)
every_second word =
    let is_mask : IsMask 6148914691236517205 2 1 = mask-by 6148914691236517205 2 1 refl in
    record {
      bits = λ i lt low.
          let place : 2 * (1 * (i / 2) + i % 2) ≡ i = omega arith in
          is_bit_and (bit_and word (word / 2 ^ 1)) 6148914691236517205 i
          ∙ ap₂ ◌&&◌ (pair_bit word i ∙ two_is (is_bit word) (1 * (i / 2) + i % 2) i place) (is_mask i lt ∙ le-leb (suc (i % 2)) 1 (omega arith))
          ∙ and-true (block_true 2 (is_bit word) (1 * (i / 2) + i % 2));
      gaps = λ i lt high.
          is_bit_and (bit_and word (word / 2 ^ 1)) 6148914691236517205 i
          ∙ ap (λ b. is_bit (bit_and word (word / 2 ^ 1)) i && b) (is_mask i lt ∙ lt-leb (suc (i % 2)) 1 (omega arith))
          ∙ and-false (is_bit (bit_and word (word / 2 ^ 1)) i);
    }

-- the results in every second bit, moved together in five steps
pub folded-twos :
    (word twos fours eights sixteens all : ℕ) →
    ((i : ℕ) → i < 64 → is_bit twos i ≡ ((is_bit (bit_and (bit_and word (word / 2 ^ 1)) 6148914691236517205) i || is_bit (bit_and (bit_and word (word / 2 ^ 1)) 6148914691236517205) (1 + i)) && is_bit 3689348814741910323 i)) →
    ((i : ℕ) → i < 64 → is_bit fours i ≡ ((is_bit twos i || is_bit twos (2 + i)) && is_bit 1085102592571150095 i)) →
    ((i : ℕ) → i < 64 → is_bit eights i ≡ ((is_bit fours i || is_bit fours (4 + i)) && is_bit 71777214294589695 i)) →
    ((i : ℕ) → i < 64 → is_bit sixteens i ≡ ((is_bit eights i || is_bit eights (8 + i)) && is_bit 281470681808895 i)) →
    ((i : ℕ) → i < 64 → is_bit all i ≡ ((is_bit sixteens i || is_bit sixteens (16 + i)) && is_bit 4294967295 i)) → IsFolded 2 32 word all
folded-twos word twos fours eights sixteens all first second third fourth fifth =
    let f : ℕ → Bool = block_true 2 (is_bit word) in
    let by_twos = moved f 2 1 1 4 2 3689348814741910323 _ twos to_twos (mask-by 3689348814741910323 4 2 refl) (every_second word) first in
    let by_fours = moved f 4 2 2 8 4 1085102592571150095 twos fours to_fours (mask-by 1085102592571150095 8 4 refl) by_twos second in
    let by_eights = moved f 8 4 4 16 8 71777214294589695 fours eights to_eights (mask-by 71777214294589695 16 8 refl) by_fours third in
    let by_sixteens = moved f 16 8 8 32 16 281470681808895 eights sixteens to_sixteens (mask-by 281470681808895 32 16 refl) by_eights fourth in
    let spread = moved f 32 16 16 64 32 4294967295 sixteens all to_thirty_twos (mask-by 4294967295 64 32 refl) by_sixteens fifth in
    record {
      bits = λ i lt. let place : 32 * (i / 64) + i % 64 ≡ i = omega arith in spread.bits i (omega arith) (omega arith) ∙ ap f place;
      rest = λ i le lt. spread.gaps i lt (omega arith);
    }

-- ---- the folds of two words

-- the fold of one of two words is a half of the fold of both
pub half :
    (words : List ℕ) (j word fold : ℕ) → j < 2 → get_or words j 0 ≡ word → IsFolded 2 32 word fold → IsPacked fold (first_of (block_true 2 (bit_of words)) 64) (32 * j) 32
half words j word fold few is_word is = record {
  bits = λ i lt.
      is.bits i lt
      ∙ block-same 2 (is_bit word) (bit_of words) i (32 * j + i)
      (λ u below.
      let number : (2 * (32 * j + i) + u) / 64 ≡ j = omega arith in
      let place : (2 * (32 * j + i) + u) % 64 ≡ 2 * i + u = omega arith in
      sym
      (ap (λ k. is_bit (get_or words k 0) ((2 * (32 * j + i) + u) % 64)) number
      ∙ ap (is_bit (get_or words j 0)) place
      ∙ ap (λ w. is_bit w (2 * i + u)) is_word))
      ∙ sym (get_or-first (block_true 2 (bit_of words)) 64 (32 * j + i) false (omega arith));
  rest = is.rest;
}

-- ---- the fold of values that words have

in_words :
    (g : ℕ → Bool) (k a b p : ℕ) → IsWord g (2 * k) a → IsWord g (2 * k + 1) b → p < 128 → bit_of (a ∷ b ∷ []) p ≡ g (128 * k + p)
in_words g k a b p is_a is_b lt =
    let words : List ℕ = a ∷ b ∷ [] in
    ⊎_elim
    (λ first. in_word g words 0 (2 * k) a p (128 * k + p) refl is_a (omega arith) (omega arith))
    (λ second. in_word g words 1 (2 * k + 1) b p (128 * k + p) refl is_b (omega arith) (omega arith))
    (cases_lt p 64)

pub word-folded-twos :
    (g : ℕ → Bool) (k a b word : ℕ) → IsWord g (2 * k) a → IsWord g (2 * k + 1) b →
    ((i : ℕ) → i < 64 → is_bit word i ≡ block_true 2 (bit_of (a ∷ b ∷ [])) i) → IsWord (block_true 2 g) k word
word-folded-twos g k a b word is_a is_b fold = record {
  bits = λ i lt.
      fold i lt
      ∙ block-same 2 (bit_of (a ∷ b ∷ [])) g i (64 * k + i)
      (λ u below.
      let place : 128 * k + (2 * i + u) ≡ 2 * (64 * k + i) + u = omega arith in
      in_words g k a b (2 * i + u) is_a is_b (omega arith) ∙ ap g place);
}
