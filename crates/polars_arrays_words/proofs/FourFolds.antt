-- Fours of bits of words, folded to one bit each.
use Rattle.std.proofs.Common.{◌≡◌, ℕ, suc, ◌+◌, ◌*◌, ◌/◌, ◌%◌, ◌^◌, ◌<◌, Bool, true, false, ◌&&◌, ◌||◌, List, [], ◌∷◌, get_or, bit_and, refl, sym, ap, ap₂, ◌∙◌, arith}
use Rattle.std.proofs.Math.Bool.{and-true, and-false}
use Rattle.std.proofs.lemmas.Bool.{cases_lt, le-leb, lt-leb}
use mathlib.Core.Logic.{⊎_elim}
use Rattle.polars_arrays_words.specs.Bits.{is_bit, bit_of, first_of, IsWord}
use Rattle.polars_arrays_words.specs.Blocks.{block_true, IsFolded}
use Rattle.polars_arrays_words.specs.Packing.{IsPacked}
use Rattle.polars_arrays_words.proofs.Firsts.{get_or-first}
use Rattle.polars_arrays_words.proofs.OperatorBits.{is_bit_and}
use Rattle.polars_arrays_words.proofs.Spreads.{IsSpread, IsMask, IsStep, is_bit-shr, pair_bit, mask-by, moved, block-same, in_word}

to_twos : IsStep 4 1 3 8 2
to_twos = record { first = λ i lt low. (omega arith, omega arith, omega arith, omega arith); second = λ i lt past low. (omega arith, omega arith, omega arith, omega arith) }

to_fours : IsStep 8 2 6 16 4
to_fours = record { first = λ i lt low. (omega arith, omega arith, omega arith, omega arith); second = λ i lt past low. (omega arith, omega arith, omega arith, omega arith) }

to_eights : IsStep 16 4 12 32 8
to_eights = record { first = λ i lt low. (omega arith, omega arith, omega arith, omega arith); second = λ i lt past low. (omega arith, omega arith, omega arith, omega arith) }

to_sixteens : IsStep 32 8 24 64 16
to_sixteens = record { first = λ i lt low. (omega arith, omega arith, omega arith, omega arith); second = λ i lt past low. (omega arith, omega arith, omega arith, omega arith) }

-- ---- the fold of a word

and_four : (a b c d : Bool) → ((a && b) && (c && d)) ≡ (a && (b && (c && (d && true))))
and_four false b c d = refl
and_four true false c d = refl
and_four true true false d = refl
and_four true true true false = refl
and_four true true true true = refl

four_is : (f : ℕ → Bool) (q i : ℕ) → 4 * q ≡ i → ((f i && f (1 + i)) && (f (2 + i) && f (1 + (2 + i)))) ≡ block_true 4 f q
four_is f q i e =
    let zeroth : i ≡ 4 * q + 0 = omega arith in
    let first : 1 + i ≡ 4 * q + 1 = omega arith in
    let second : 2 + i ≡ 4 * q + 2 = omega arith in
    let third : 1 + (2 + i) ≡ 4 * q + 3 = omega arith in
    and_four (f i) (f (1 + i)) (f (2 + i)) (f (1 + (2 + i)))
    ∙ ap₂ ◌&&◌ (ap f zeroth) (ap₂ ◌&&◌ (ap f first) (ap₂ ◌&&◌ (ap f second) (ap (λ b. b && true) (ap f third))))

-- the same once more by 2
four_bit :
    (word pairs i : ℕ) → pairs ≡ bit_and word (word / 2 ^ 1) →
    is_bit (bit_and pairs (pairs / 2 ^ 2)) i ≡ ((is_bit word i && is_bit word (1 + i)) && (is_bit word (2 + i) && is_bit word (1 + (2 + i))))
four_bit word pairs i e =
    is_bit_and pairs (pairs / 2 ^ 2) i
    ∙ ap₂ ◌&&◌ (ap (λ w. is_bit w i) e ∙ pair_bit word i) (is_bit-shr pairs 2 i ∙ ap (λ w. is_bit w (2 + i)) e ∙ pair_bit word (2 + i))

every_fourth : (word pairs : ℕ) → pairs ≡ bit_and word (word / 2 ^ 1) → IsSpread (block_true 4 (is_bit word)) 4 1 (bit_and (bit_and pairs (pairs / 2 ^ 2)) 1229782938247303441)
every_fourth word pairs e =
    let is_mask : IsMask 1229782938247303441 4 1 = mask-by 1229782938247303441 4 1 refl in
    record {
      bits = λ i lt low.
          let place : 4 * (1 * (i / 4) + i % 4) ≡ i = omega arith in
          is_bit_and (bit_and pairs (pairs / 2 ^ 2)) 1229782938247303441 i
          ∙ ap₂ ◌&&◌ (four_bit word pairs i e ∙ four_is (is_bit word) (1 * (i / 4) + i % 4) i place) (is_mask i lt ∙ le-leb (suc (i % 4)) 1 (omega arith))
          ∙ and-true (block_true 4 (is_bit word) (1 * (i / 4) + i % 4));
      gaps = λ i lt high.
          is_bit_and (bit_and pairs (pairs / 2 ^ 2)) 1229782938247303441 i
          ∙ ap (λ b. is_bit (bit_and pairs (pairs / 2 ^ 2)) i && b) (is_mask i lt ∙ lt-leb (suc (i % 4)) 1 (omega arith))
          ∙ and-false (is_bit (bit_and pairs (pairs / 2 ^ 2)) i);
    }

-- the results in every fourth bit, moved together in four steps
pub folded-fours :
    (word twos fours eights sixteens : ℕ) →
    ((i : ℕ) → i < 64 → is_bit twos i ≡ ((is_bit (bit_and (bit_and (bit_and word (word / 2 ^ 1)) (bit_and word (word / 2 ^ 1) / 2 ^ 2)) 1229782938247303441) i || is_bit (bit_and (bit_and (bit_and word (word / 2 ^ 1)) (bit_and word (word / 2 ^ 1) / 2 ^ 2)) 1229782938247303441) (3 + i)) && is_bit 217020518514230019 i)) →
    ((i : ℕ) → i < 64 → is_bit fours i ≡ ((is_bit twos i || is_bit twos (6 + i)) && is_bit 4222189076152335 i)) →
    ((i : ℕ) → i < 64 → is_bit eights i ≡ ((is_bit fours i || is_bit fours (12 + i)) && is_bit 1095216660735 i)) →
    ((i : ℕ) → i < 64 → is_bit sixteens i ≡ ((is_bit eights i || is_bit eights (24 + i)) && is_bit 65535 i)) → IsFolded 4 16 word sixteens
folded-fours word twos fours eights sixteens first second third fourth =
    let f : ℕ → Bool = block_true 4 (is_bit word) in
    let apart = every_fourth word (bit_and word (word / 2 ^ 1)) refl in
    let by_twos = moved f 4 1 3 8 2 217020518514230019 _ twos to_twos (mask-by 217020518514230019 8 2 refl) apart first in
    let by_fours = moved f 8 2 6 16 4 4222189076152335 twos fours to_fours (mask-by 4222189076152335 16 4 refl) by_twos second in
    let by_eights = moved f 16 4 12 32 8 1095216660735 fours eights to_eights (mask-by 1095216660735 32 8 refl) by_fours third in
    let all = moved f 32 8 24 64 16 65535 eights sixteens to_sixteens (mask-by 65535 64 16 refl) by_eights fourth in
    record {
      bits = λ i lt. let place : 16 * (i / 64) + i % 64 ≡ i = omega arith in all.bits i (omega arith) (omega arith) ∙ ap f place;
      rest = λ i le lt. all.gaps i lt (omega arith);
    }

-- ---- the folds of four words

-- the fold of one of four words is a quarter of the fold of all
pub quarter :
    (words : List ℕ) (j word fold : ℕ) → j < 4 → get_or words j 0 ≡ word → IsFolded 4 16 word fold → IsPacked fold (first_of (block_true 4 (bit_of words)) 64) (16 * j) 16
quarter words j word fold few is_word is = record {
  bits = λ i lt.
      is.bits i lt
      ∙ block-same 4 (is_bit word) (bit_of words) i (16 * j + i)
      (λ u below.
      let number : (4 * (16 * j + i) + u) / 64 ≡ j = omega arith in
      let place : (4 * (16 * j + i) + u) % 64 ≡ 4 * i + u = omega arith in
      sym
      (ap (λ k. is_bit (get_or words k 0) ((4 * (16 * j + i) + u) % 64)) number
      ∙ ap (is_bit (get_or words j 0)) place
      ∙ ap (λ w. is_bit w (4 * i + u)) is_word))
      ∙ sym (get_or-first (block_true 4 (bit_of words)) 64 (16 * j + i) false (omega arith));
  rest = is.rest;
}

-- ---- the fold of values that words have

in_words :
    (g : ℕ → Bool) (k a b c d p : ℕ) → IsWord g (4 * k) a → IsWord g (4 * k + 1) b → IsWord g (4 * k + 2) c → IsWord g (4 * k + 3) d → p < 256 →
    bit_of (a ∷ b ∷ c ∷ d ∷ []) p ≡ g (256 * k + p)
in_words g k a b c d p is_a is_b is_c is_d lt =
    let words : List ℕ = a ∷ b ∷ c ∷ d ∷ [] in
    ⊎_elim
    (λ low.
    ⊎_elim
    (λ first. in_word g words 0 (4 * k) a p (256 * k + p) refl is_a (omega arith) (omega arith))
    (λ second. in_word g words 1 (4 * k + 1) b p (256 * k + p) refl is_b (omega arith) (omega arith))
    (cases_lt p 64))
    (λ high.
    ⊎_elim
    (λ third. in_word g words 2 (4 * k + 2) c p (256 * k + p) refl is_c (omega arith) (omega arith))
    (λ fourth. in_word g words 3 (4 * k + 3) d p (256 * k + p) refl is_d (omega arith) (omega arith))
    (cases_lt p 192))
    (cases_lt p 128)

pub word-folded-fours :
    (g : ℕ → Bool) (k a b c d word : ℕ) → IsWord g (4 * k) a → IsWord g (4 * k + 1) b → IsWord g (4 * k + 2) c → IsWord g (4 * k + 3) d →
    ((i : ℕ) → i < 64 → is_bit word i ≡ block_true 4 (bit_of (a ∷ b ∷ c ∷ d ∷ [])) i) → IsWord (block_true 4 g) k word
word-folded-fours g k a b c d word is_a is_b is_c is_d fold = record {
  bits = λ i lt.
      fold i lt
      ∙ block-same 4 (bit_of (a ∷ b ∷ c ∷ d ∷ [])) g i (64 * k + i)
      (λ u below.
      let place : 256 * k + (4 * i + u) ≡ 4 * (64 * k + i) + u = omega arith in
      in_words g k a b c d (4 * i + u) is_a is_b is_c is_d (omega arith) ∙ ap g place);
}
