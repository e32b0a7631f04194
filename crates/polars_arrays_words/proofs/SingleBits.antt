-- Single bits of numbers and of words.
use Rattle.std.proofs.Common.{◌≡◌, ℕ, ◌+◌, ◌-◌, ◌*◌, ◌/◌, ◌%◌, ◌^◌, ◌<◌, ◌≤◌, true, false, eqb, List, [], ◌∷◌, get_or, sym, ap, ap₂, ◌∙◌, arith}
use Rattle.std.proofs.lemmas.Nat.{shr-shr, shr_split}
use Rattle.std.proofs.lemmas.Nat.Bits.{bit_at_cat_low, bit_at_cat_high, bit_at_ones, bit_at_ones_above}
use Rattle.std.proofs.Math.Pow.{pow-lt}
use Rattle.std.proofs.lemmas.Bool.{cases_lt}
use Rattle.std.specs.Int.{bit_at}
use mathlib.Core.Logic.{⊎_elim}
use Rattle.polars_arrays_words.specs.Bits.{is_bit, bit_of, IsWord}

pub bit_at-mod : (x k i : ℕ) → i < k → bit_at (x % 2 ^ k) i ≡ bit_at x i
bit_at-mod x k i h = sym (bit_at_cat_low (x / 2 ^ k) k (x % 2 ^ k) i h) ∙ ap (λ y. bit_at y i) (shr_split x k)

pub bit_at-shr : (x k i : ℕ) → bit_at (x / 2 ^ k) i ≡ bit_at x (k + i)
bit_at-shr x k i = ap (λ y. y % 2) (shr-shr x k i)

-- `(1 << n) - 1`
pub low-ones : (n : ℕ) → n < 64 → 1 * 2 ^ n % 2 ^ 64 - 1 ≡ 2 ^ n - 1
low-ones n lt = omega (arith, pow-lt {i = n} {j = 64} lt)

pub low-true : (n i : ℕ) → n < 64 → i < n → is_bit (1 * 2 ^ n % 2 ^ 64 - 1) i ≡ true
low-true n i fits lt = ap (λ w. is_bit w i) (low-ones n fits) ∙ ap (λ b. eqb b 1) (bit_at_ones n i lt)

pub low-false : (n i : ℕ) → n < 64 → n ≤ i → is_bit (1 * 2 ^ n % 2 ^ 64 - 1) i ≡ false
low-false n i fits past = ap (λ w. is_bit w i) (low-ones n fits) ∙ ap (λ b. eqb b 1) (bit_at_ones_above n i past)

-- a bit of a word below, and of the word above it
bit_of-low : (low high p : ℕ) → p < 64 → bit_of (low ∷ high ∷ []) p ≡ is_bit low p
bit_of-low low high p lt =
    let word : p / 64 ≡ 0 = omega arith in
    let place : p % 64 ≡ p = omega arith in
    ap₂ (λ k i. is_bit (get_or (low ∷ high ∷ []) k 0) i) word place

bit_of-high : (low high p : ℕ) → 64 ≤ p → p < 128 → bit_of (low ∷ high ∷ []) p ≡ is_bit high (p - 64)
bit_of-high low high p le lt =
    let word : p / 64 ≡ 1 = omega arith in
    let place : p % 64 ≡ p - 64 = omega arith in
    ap₂ (λ k i. is_bit (get_or (low ∷ high ∷ []) k 0) i) word place

-- the bits of two words as one number
pub is_bit-joined : (low high p : ℕ) → low < 2 ^ 64 → p < 128 → is_bit (high * 2 ^ 64 + low) p ≡ bit_of (low ∷ high ∷ []) p
is_bit-joined low high p fits lt =
    ⊎_elim
    (λ below. ap (λ b. eqb b 1) (bit_at_cat_low high 64 low p below) ∙ sym (bit_of-low low high p below))
    (λ past. ap (λ b. eqb b 1) (bit_at_cat_high high 64 low p fits past) ∙ sym (bit_of-high low high p past lt))
    (cases_lt p 64)

-- two words of a list, one after the other
pub bit_of-two : (words : List ℕ) (k p : ℕ) → p < 128 → bit_of (get_or words k 0 ∷ get_or words (k + 1) 0 ∷ []) p ≡ bit_of words (64 * k + p)
bit_of-two words k p lt =
    ⊎_elim
    (λ below.
    let word : k ≡ (64 * k + p) / 64 = omega arith in
    let place : p ≡ (64 * k + p) % 64 = omega arith in
    bit_of-low (get_or words k 0) (get_or words (k + 1) 0) p below ∙ ap₂ (λ j i. is_bit (get_or words j 0) i) word place)
    (λ past.
    let word : k + 1 ≡ (64 * k + p) / 64 = omega arith in
    let place : p - 64 ≡ (64 * k + p) % 64 = omega arith in
    bit_of-high (get_or words k 0) (get_or words (k + 1) 0) p past lt ∙ ap₂ (λ j i. is_bit (get_or words j 0) i) word place)
    (cases_lt p 64)

-- the word that is joined from two words of a list
pub word-joined :
    (words : List ℕ) (by k low high word : ℕ) → by < 64 → low ≡ get_or words k 0 → high ≡ get_or words (k + 1) 0 →
    ((i : ℕ) → i < 64 → is_bit word i ≡ bit_of (low ∷ high ∷ []) (by + i)) → IsWord (λ i. bit_of words (by + i)) k word
word-joined words by k low high word lt is_low is_high joined =
    record {
      bits = λ i below.
          let within : by + i < 128 = omega arith in
          let place : 64 * k + (by + i) ≡ by + (64 * k + i) = omega arith in
          joined i below ∙ ap₂ (λ a b. bit_of (a ∷ b ∷ []) (by + i)) is_low is_high ∙ bit_of-two words k (by + i) within ∙ ap (bit_of words) place;
    }
