-- Words and truth values written after bits that are kept.
use Rattle.std.proofs.Common.{◌≡◌, ℕ, ◌+◌, ◌-◌, ◌*◌, ◌/◌, ◌%◌, ◌^◌, ◌<◌, ◌≤◌, Bool, false, eqb, ◌||◌, List, length, get_or, set, bit_and, refl, sym, ap, ◌∙◌, arith}
use Rattle.std.proofs.lemmas.Bool.{cases_eq, cases_lt}
use Rattle.std.proofs.lemmas.List.{length-set, set_past}
use Rattle.std.proofs.lemmas.Nat.{and_mask, one_shl, mod_below, pow_pos}
use Rattle.std.proofs.lemmas.Nat.Bits.{bit_at_above}
use mathlib.Core.Logic.{⊎_elim}
use Rattle.polars_arrays_words.specs.Bits.{is_bit, bit_of, IsPut}
use Rattle.polars_arrays_words.specs.Packing.{AreAppended}
use Rattle.polars_arrays_words.proofs.SingleBits.{bit_at-mod, bit_at-shr}
use Rattle.polars_arrays_words.proofs.WrittenBits.{bit_of-set_same, bit_of-set_other}

-- `word & ((1 << by) - 1)`
masked : (word by : ℕ) → by < 64 → bit_and word (1 * 2 ^ by % 2 ^ 64 - 1) ≡ word % 2 ^ by
masked word by lt = ap (λ y. bit_and word (y - 1)) (one_shl by 64 lt) ∙ and_mask word by

masked_below : (word by i : ℕ) → by < 64 → i < by → is_bit (bit_and word (1 * 2 ^ by % 2 ^ 64 - 1)) i ≡ is_bit word i
masked_below word by i fits lt = ap (λ n. is_bit n i) (masked word by fits) ∙ ap (λ b. eqb b 1) (bit_at-mod word by i lt)

masked_above : (word by i : ℕ) → by < 64 → by ≤ i → is_bit (bit_and word (1 * 2 ^ by % 2 ^ 64 - 1)) i ≡ false
masked_above word by i fits le =
    ap (λ n. is_bit n i) (masked word by fits) ∙ ap (λ b. eqb b 1) (bit_at_above (word % 2 ^ by) by i (mod_below word (2 ^ by) (pow_pos by)) le)

-- `(word >> 1) >> (63 - by)`
spilled : (word by j : ℕ) → by < 64 → is_bit (word / 2 ^ 1 / 2 ^ (64 - 1 - by)) j ≡ is_bit word (64 - by + j)
spilled word by j lt =
    let place : 1 + (64 - 1 - by + j) ≡ 64 - by + j = omega arith in
    ap (λ b. eqb b 1) (bit_at-shr (word / 2 ^ 1) (64 - 1 - by) j ∙ bit_at-shr word 1 (64 - 1 - by + j)) ∙ ap (is_bit word) place

-- a word that is put over two words of a list
pub is-put :
    (words : List ℕ) (p word kept first : ℕ) → kept ≡ get_or words (p / 64) 0 →
    ((i : ℕ) → i < p % 64 → is_bit first i ≡ is_bit (bit_and kept (1 * 2 ^ (p % 64) % 2 ^ 64 - 1)) i) →
    ((i : ℕ) → i < 64 - p % 64 → is_bit first (p % 64 + i) ≡ (is_bit (bit_and kept (1 * 2 ^ (p % 64) % 2 ^ 64 - 1)) (p % 64 + i) || is_bit word i)) →
    IsPut words (set (set words (p / 64) first) (p / 64 + 1) (word / 2 ^ 1 / 2 ^ (64 - 1 - p % 64))) p word
is-put words p word kept first is_kept below above =
    let k : ℕ = p / 64 in
    let by : ℕ = p % 64 in
    let fits : by < 64 = omega arith in
    let second : ℕ = word / 2 ^ 1 / 2 ^ (64 - 1 - by) in
    let one : List ℕ = set words k first in
    record {
      count = length-set one (k + 1) second ∙ length-set words k first;
      before = λ q lt.
          bit_of-set_other one (k + 1) second q (λ e. omega arith)
          ∙ ⊎_elim
          (λ same.
          ⊎_elim
          (λ there.
          bit_of-set_same words k first q there same
          ∙ below (q % 64) (omega arith)
          ∙ masked_below kept by (q % 64) fits (omega arith)
          ∙ ap (λ w. is_bit w (q % 64)) is_kept
          ∙ ap (λ j. is_bit (get_or words j 0) (q % 64)) (sym same))
          (λ past. ap (λ ws. bit_of ws q) (set_past words k first past))
          (cases_lt k (length words)))
          (λ ne. bit_of-set_other words k first q ne)
          (cases_eq (q / 64) k);
      bits = λ i lt within.
          ⊎_elim
          (λ low.
          let here : (p + i) / 64 ≡ k = omega arith in
          let place : (p + i) % 64 ≡ by + i = omega arith in
          let there : k < length words = omega arith in
          bit_of-set_other one (k + 1) second (p + i) (λ e. omega arith)
          ∙ bit_of-set_same words k first (p + i) there here
          ∙ ap (is_bit first) place
          ∙ above i (omega arith)
          ∙ ap (λ b. b || is_bit word i) (masked_above kept by (by + i) fits (omega arith)))
          (λ high.
          let next : (p + i) / 64 ≡ k + 1 = omega arith in
          let place : 64 - by + (p + i) % 64 ≡ i = omega arith in
          bit_of-set_same one (k + 1) second (p + i) (omega (arith, length-set words k first)) next
          ∙ spilled word by ((p + i) % 64) fits
          ∙ ap (is_bit word) place)
          (cases_lt (by + i) 64);
    }

-- no truth value appended
pub appended-none : (words : List ℕ) (from : ℕ) (values : List Bool) → AreAppended words words from values 0
appended-none words from values = record {
  long = refl;
  before = λ p lt. refl;
  added = λ i lt. absurd (omega arith);
}

-- a word that begins with the next truth values, put after those before it
pub appended-more :
    (old mid new : List ℕ) (from word : ℕ) (values : List Bool) (n count : ℕ) → from + (n + count) ≤ 64 * length old → count ≤ 64 →
    ((i : ℕ) → i < count → is_bit word i ≡ get_or values (n + i) false) → AreAppended old mid from values n → IsPut mid new (from + n) word → AreAppended old new from values (n + count)
appended-more old mid new from word values n count room few next so_far put = record {
  long = put.count ∙ so_far.long;
  before = λ p lt. put.before p (omega arith) ∙ so_far.before p lt;
  added = λ i lt.
      ⊎_elim
      (λ less. put.before (from + i) (omega arith) ∙ so_far.added i less)
      (λ past.
      let place : from + i ≡ from + n + (i - n) = omega arith in
      let there : n + (i - n) ≡ i = omega arith in
      ap (bit_of new) place
      ∙ put.bits (i - n) (omega arith) (omega (arith, so_far.long))
      ∙ next (i - n) (omega arith)
      ∙ ap (λ k. get_or values k false) there)
      (cases_lt i n);
}
