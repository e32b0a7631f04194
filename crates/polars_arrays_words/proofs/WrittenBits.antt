-- Bits written, one, in a run, and by whole words.
use Rattle.std.proofs.Common.{◌≡◌, ◌≢◌, ℕ, ◌+◌, ◌-◌, ◌*◌, ◌/◌, ◌%◌, ◌^◌, ◌<◌, ◌≤◌, Bool, true, false, eqb, List, length, get_or, set, bit_and, bit_or, refl, sym, ap, ◌∙◌, arith}
use Rattle.std.proofs.lemmas.Bool.{cases_eq, cases_lt}
use Rattle.std.proofs.lemmas.List.{get_or-set_other, get_or-set_same, length-set}
use Rattle.std.proofs.lemmas.Nat.Bits.{bit_at_set_same, bit_at_set_other, bit_at_clear_same, bit_at_clear_other, bit_at_ones, bit_at-zero}
use Rattle.std.specs.Int.{w64}
use mathlib.Core.Logic.{⊎_elim}
use Rattle.polars_arrays_words.specs.Bits.{is_bit, bit_of, IsWritten}

-- a word put in place k: its bits, and those of the others
pub bit_of-set_same : (words : List ℕ) (k word p : ℕ) → k < length words → p / 64 ≡ k → bit_of (set words k word) p ≡ is_bit word (p % 64)
bit_of-set_same words k word p lt e = ap (λ j. is_bit (get_or (set words k word) j 0) (p % 64)) e ∙ ap (λ w. is_bit w (p % 64)) (get_or-set_same words k word 0 lt)

pub bit_of-set_other : (words : List ℕ) (k word p : ℕ) → p / 64 ≢ k → bit_of (set words k word) p ≡ bit_of words p
bit_of-set_other words k word p ne = ap (λ w. is_bit w (p % 64)) (get_or-set_other words k (p / 64) word 0 ne)

-- one bit of a word written
pub written-bit :
    (words : List ℕ) (p word : ℕ) (value : Bool) → p < 64 * length words → is_bit word (p % 64) ≡ value →
    ((i : ℕ) → i < 64 → i ≢ p % 64 → is_bit word i ≡ is_bit (get_or words (p / 64) 0) i) → IsWritten words (set words (p / 64) word) p (p + 1) value
written-bit words p word value lt here others =
    let there : p / 64 < length words = omega arith in
    let apart : (q : ℕ) → q ≢ p → bit_of (set words (p / 64) word) q ≡ bit_of words q =
    λ q ne.
    ⊎_elim
    (λ same.
    let rest : q % 64 ≢ p % 64 = λ e. ne (omega arith) in
    bit_of-set_same words (p / 64) word q there same ∙ others (q % 64) (omega arith) rest ∙ ap (λ k. is_bit (get_or words k 0) (q % 64)) (sym same))
    (λ other. bit_of-set_other words (p / 64) word q other)
    (cases_eq (q / 64) (p / 64)) in
    record {
      count = length-set words (p / 64) word;
      within = λ q le below. let e : p ≡ q = omega arith in ap (bit_of (set words (p / 64) word)) (sym e) ∙ bit_of-set_same words (p / 64) word p there refl ∙ here;
      below = λ q less. apart q (λ e. omega arith);
      above = λ q more. apart q (λ e. omega arith);
    }

-- the word with a bit set, and with a bit cleared
pub set_here : (word k : ℕ) → k < 64 → is_bit (bit_or word (1 * 2 ^ k % 2 ^ 64)) k ≡ true
set_here word k lt = ap (λ y. eqb y 1) (bit_at_set_same w64 word k lt)

pub set_others : (word k i : ℕ) → k < 64 → i ≢ k → is_bit (bit_or word (1 * 2 ^ k % 2 ^ 64)) i ≡ is_bit word i
set_others word k i lt ne = ap (λ y. eqb y 1) (bit_at_set_other w64 word k lt i ne)

pub cleared_here : (word k : ℕ) → k < 64 → is_bit (bit_and word (2 ^ 64 - 1 - 1 * 2 ^ k % 2 ^ 64)) k ≡ false
cleared_here word k lt = ap (λ y. eqb y 1) (bit_at_clear_same w64 word k lt)

pub cleared_others : (word k i : ℕ) → k < 64 → i < 64 → i ≢ k → is_bit (bit_and word (2 ^ 64 - 1 - 1 * 2 ^ k % 2 ^ 64)) i ≡ is_bit word i
cleared_others word k i lt within ne = ap (λ y. eqb y 1) (bit_at_clear_other w64 word k lt i within ne)

-- a whole word of one value, put in place k
pub written-word : (words : List ℕ) (k word : ℕ) (value : Bool) → k < length words → ((i : ℕ) → i < 64 → is_bit word i ≡ value) → IsWritten words (set words k word) (64 * k) (64 * (k + 1)) value
written-word words k word value lt all =
    record {
      count = length-set words k word;
      within = λ p le less. let e : p / 64 ≡ k = omega arith in bit_of-set_same words k word p lt e ∙ all (p % 64) (omega arith);
      below = λ p less. bit_of-set_other words k word p (λ e. omega arith);
      above = λ p more. bit_of-set_other words k word p (λ e. omega arith);
    }

pub ones_bit : (i : ℕ) → i < 64 → is_bit (2 ^ 64 - 1) i ≡ true
ones_bit i lt = ap (λ y. eqb y 1) (bit_at_ones 64 i lt)

pub zeros_bit : (i : ℕ) → is_bit 0 i ≡ false
zeros_bit i = ap (λ y. eqb y 1) (bit_at-zero i)

pub written-more : (old mid new : List ℕ) (from at to : ℕ) (value : Bool) → IsWritten old mid from at value → IsWritten mid new at to value → from ≤ at → at ≤ to → IsWritten old new from to value
written-more old mid new from at to value w v le more =
    record {
      count = v.count ∙ w.count;
      within = λ p above below. ⊎_elim (λ before. v.below p before ∙ w.within p above before) (λ past. v.within p past below) (cases_lt p at);
      below = λ p lt. v.below p (omega arith) ∙ w.below p lt;
      above = λ p past. v.above p past ∙ w.above p (omega arith);
    }
