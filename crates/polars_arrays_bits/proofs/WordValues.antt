-- Words that hold values, and the bits of these words.
use Rattle.std.proofs.Common.{◌≡◌, ℕ, ◌+◌, ◌-◌, ◌*◌, ◌/◌, ◌%◌, ◌<◌, ◌≤◌, Bool, List, [], ◌∷◌, ◌++◌, length, get_or, below_more, sym, ap, ◌∙◌, arith, min, false, refl}
use Rattle.std.proofs.lemmas.List.{get_or_append_left, get_or_push, length_push, get_or_past, get_or_default}
use Rattle.std.proofs.lemmas.Bool.{cases_lt}
use mathlib.Core.Logic.{⊎_elim}
use Rattle.polars_arrays_words.specs.Bits.{is_bit, bit_of, first_of, window, IsWord, AreWords}
use Rattle.polars_arrays_words.specs.Packing.{IsPacked}
use Rattle.polars_arrays_words.proofs.Firsts.{first_is, first_same}

-- the bits of words that hold the values
pub window-words : (f : ℕ → Bool) (count n : ℕ) (words : List ℕ) → AreWords f count words → n ≤ 64 * count → window 0 n words ≡ first_of f n
window-words f count n words made le =
    first_same (λ i. bit_of words (0 + i)) f n
    (λ i lt.
    let at : 0 + i ≡ i = omega arith in
    let word : i / 64 < count = omega arith in
    let within : i % 64 < 64 = omega arith in
    let place : 64 * (i / 64) + i % 64 ≡ i = omega arith in
    ap (bit_of words) at ∙ (made.each (i / 64) word).bits (i % 64) within ∙ ap f place)

-- one word more
pub are-words-more : (f : ℕ → Bool) (k word : ℕ) (words more : List ℕ) → AreWords f k words → IsWord f k word → more ≡ words ++ word ∷ [] → AreWords f (k + 1) more
are-words-more f k word words more made is e =
    record {
      count = ap length e ∙ length_push words word ∙ ap (λ n. n + 1) made.count;
      each =
          below_more (λ j. IsWord f j (get_or more j 0)) k
          (λ j lt.
          let there : j < length words = omega (arith, made.count) in
          let same : get_or more j 0 ≡ get_or words j 0 = ap (λ l. get_or l j 0) e ∙ get_or_append_left words (word ∷ []) 0 j there in
          record { bits = λ i below. ap (λ w. is_bit w i) same ∙ (made.each j lt).bits i below })
          (let same : get_or more k 0 ≡ word = ap (λ l. get_or l k 0) e ∙ get_or_push words word 0 k made.count in
          record { bits = λ i below. ap (λ w. is_bit w i) same ∙ is.bits i below });
    }

-- the word of at most 64 values from the k-th 64 on, of which there are no more after it
pub word-values : (values : List Bool) (k at count word : ℕ) → at ≡ min (64 * k) (length values) → count ≡ min (length values - at) 64 → IsPacked word values at count → IsWord (λ i. get_or values i false) k word
word-values values k at count word a n packed = record {
  bits = λ i below.
      ⊎_elim
      (λ lt. let place : at + i ≡ 64 * k + i = omega arith in packed.bits i lt ∙ ap (λ p. get_or values p false) place)
      (λ past. packed.rest i past below ∙ sym (get_or_past values (64 * k + i) false (omega arith)))
      (cases_lt i count);
}

-- a list by its elements
pub first-elements : (values : List Bool) → first_of (λ i. get_or values i false) (length values) ≡ values
first-elements values = first_is (λ i. get_or values i false) (length values) values refl (λ i d lt. get_or_default values i false d lt)

-- all values of a list, packed into a word
pub first-packed : (values : List Bool) (n word : ℕ) → length values ≡ n → IsPacked word values 0 n → first_of (is_bit word) n ≡ values
first-packed values n word long packed =
    first_is (is_bit word) n values long
    (λ i d lt.
    let place : 0 + i ≡ i = omega arith in
    packed.bits i lt ∙ ap (λ p. get_or values p false) place ∙ get_or_default values i false d (omega arith))
