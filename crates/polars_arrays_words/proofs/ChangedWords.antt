-- Words that are changed one after the other.
use Rattle.std.proofs.Common.{◌≡◌, ℕ, ◌+◌, ◌*◌, ◌/◌, ◌%◌, ◌<◌, ◌≤◌, Bool, List, length, get_or, set, sym, ap, ◌∙◌, arith}
use Rattle.std.proofs.lemmas.Bool.{cases_lt}
use Rattle.std.proofs.lemmas.List.{length-set}
use mathlib.Core.Logic.{⊎_elim}
use Rattle.polars_arrays_words.specs.Bits.{is_bit, bit_of, IsChanged, IsChangedWord}
use Rattle.polars_arrays_words.proofs.WrittenBits.{bit_of-set_same, bit_of-set_other}

-- the bits of a word that was changed
changed-bits :
    (h : ℕ → Bool → Bool) (words : List ℕ) (k changed p : ℕ) → k < length words → IsChangedWord h k (get_or words k 0) changed → p / 64 ≡ k →
    bit_of (set words k changed) p ≡ h p (bit_of words p)
changed-bits h words k changed p lt is e =
    let place : 64 * k + p % 64 ≡ p = omega arith in
    let within : p % 64 < 64 = omega arith in
    bit_of-set_same words k changed p lt e
    ∙ is.bits (p % 64) within
    ∙ ap (λ q. h q (is_bit (get_or words k 0) (p % 64))) place
    ∙ ap (λ j. h p (is_bit (get_or words j 0) (p % 64))) (sym e)

-- one word more
pub changed-word :
    (h : ℕ → Bool → Bool) (old mid : List ℕ) (from k changed : ℕ) → k < length mid → from ≤ k → IsChanged h old mid from k → IsChangedWord h k (get_or mid k 0) changed →
    IsChanged h old (set mid k changed) from (k + 1)
changed-word h old mid from k changed lt le before is =
    record {
      count = length-set mid k changed ∙ before.count;
      within = λ p past less.
          ⊎_elim
          (λ early. bit_of-set_other mid k changed p (λ e. omega arith) ∙ before.within p past early)
          (λ late. changed-bits h mid k changed p lt is (omega arith) ∙ ap (h p) (before.above p late))
          (cases_lt p (64 * k));
      below = λ p less. bit_of-set_other mid k changed p (λ e. omega arith) ∙ before.below p less;
      above = λ p more. bit_of-set_other mid k changed p (λ e. omega arith) ∙ before.above p (omega arith);
    }
