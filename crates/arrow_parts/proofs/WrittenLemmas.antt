-- Bits that are written into words.
use Rattle.std.proofs.Common.{◌≡◌, ℕ, ◌+◌, ◌*◌, ◌/◌, ◌%◌, ◌<◌, ◌≤◌, Bool, false, List, length, get_or, set, take, drop, sym, ap, subst, ◌∙◌, inl, inr, arith}
use Rattle.std.specs.Prelude.{slice_index_or}
use Rattle.std.proofs.lemmas.Bool.{cases_lt}
use Rattle.std.proofs.lemmas.List.{get_or-take, get_or-drop, get_or-set_same, get_or-set_other, get_or_past}
use Rattle.std.proofs.lemmas.List.FromFn.{get_or-map-range_with_len}
use Rattle.polars_arrays_words.specs.Bits.{IsWord, first_of, is_bit}
use Rattle.arrow_parts.specs.Written.{AreWritten}
use Rattle.arrow_parts.proofs.ByteWordLemmas.{zero_bit}

-- bit i of a word that holds n bits from place `at` on
word-bit : (bits : List Bool) (word at n i : ℕ) → i < n → first_of (is_bit word) n ≡ take n (drop at bits) → is_bit word i ≡ get_or bits (at + i) false
word-bit bits word at n i low same =
    sym (get_or-map-range_with_len (is_bit word) 0 n i i false low (omega arith))
    ∙ ap (λ xs. get_or xs i false) same
    ∙ get_or-take n (drop at bits) i false low
    ∙ get_or-drop at bits i false

-- a whole word of bits
pub whole-word : (bits : List Bool) (k word : ℕ) → first_of (is_bit word) 64 ≡ take 64 (drop (64 * k) bits) → IsWord (λ p. slice_index_or bits p false) k word
whole-word bits k word same = record { bits = λ i low. word-bit bits word (64 * k) 64 i low same }

-- the last few bits, with zeros above them
pub last-word : (bits : List Bool) (k word n : ℕ) → length bits ≡ 64 * k + n → first_of (is_bit word) n ≡ take n (drop (64 * k) bits) → ((i : ℕ) → n ≤ i → i < 64 → is_bit word i ≡ false) → IsWord (λ p. slice_index_or bits p false) k word
last-word bits k word n long same above = record {
  bits = λ i low. elim (cases_lt i n) [
    | inl below ↦ word-bit bits word (64 * k) n i below same
    | inr past ↦ above i past low ∙ sym (get_or_past bits (64 * k + i) false (omega arith))
  ];
}

-- a word past all bits
pub zero-word : (bits : List Bool) (k : ℕ) → length bits ≤ 64 * k → IsWord (λ p. slice_index_or bits p false) k 0
zero-word bits k past = record { bits = λ i low. zero_bit i ∙ sym (get_or_past bits (64 * k + i) false (omega arith)) }

-- the first k words are those of bits
pub record WordsWritten (bits : List Bool) (k : ℕ) (words : List ℕ) : Type 0 where
  pub each : (j : ℕ) → j < k → IsWord (λ p. slice_index_or bits p false) j (get_or words j 0)

pub none-written : (bits : List Bool) (words : List ℕ) → WordsWritten bits 0 words
none-written bits words = record { each = λ j low. absurd (omega arith) }

pub one-written : (bits : List Bool) (words : List ℕ) (k word : ℕ) → k < length words → WordsWritten bits k words → IsWord (λ p. slice_index_or bits p false) k word → WordsWritten bits (k + 1) (set words k word)
one-written bits words k word within was new = record {
  each = λ j low. elim (cases_lt j k) [
    | inl before ↦ subst (IsWord (λ p. slice_index_or bits p false) j) (sym (get_or-set_other words k j word 0 (λ e. omega arith))) (was.each j before)
    | inr past ↦
        let here : k ≡ j = omega arith in
        subst (λ q. IsWord (λ p. slice_index_or bits p false) q (get_or (set words k word) q 0)) here (subst (IsWord (λ p. slice_index_or bits p false) k) (sym (get_or-set_same words k word 0 within)) new)
  ];
}

pub all-written : (bits : List Bool) (words : List ℕ) (k : ℕ) → k ≡ length words → length bits ≤ 64 * length words → WordsWritten bits k words → AreWritten bits words
all-written bits words k all room was = record {
  room = room;
  each = λ p. elim (cases_lt (p / 64) (length words)) [
    | inl within ↦
        let place : 64 * (p / 64) + p % 64 ≡ p = omega arith in
        (was.each (p / 64) (omega arith)).bits (p % 64) (omega arith) ∙ ap (λ q. get_or bits q false) place
    | inr past ↦
        ap (λ w. is_bit w (p % 64)) (get_or_past words (p / 64) 0 past)
        ∙ zero_bit (p % 64)
        ∙ sym (get_or_past bits p false (omega arith))
  ];
}
