-- Runs of bits that are true throughout.
use Rattle.std.proofs.Common.{◌≡◌, ℕ, zero, suc, ◌+◌, ◌-◌, ◌/◌, ◌%◌, ◌^◌, ◌<◌, ◌≤◌, Bool, true, false, eqb, ◌&&◌, List, ◌++◌, refl, sym, ap, ap₂, ◌∙◌, arith, subst}
use Rattle.std.proofs.Math.Dec.{leb, leb-zero}
use Rattle.std.proofs.Math.Nat.{div-le_self}
use Rattle.std.proofs.lemmas.Bool.{cases_lt, le-leb, lt-leb}
use Rattle.std.proofs.lemmas.List.Folds.{list_all-append, list_all_at}
use Rattle.std.proofs.lemmas.Nat.Bits.{bit_at-trailing_ones}
use Rattle.std.specs.Int.{trailing_ones, w64}
use Rattle.std.specs.Int.Count.{trailing_of_zero}
use Rattle.std.specs.List.{list_all}
use mathlib.Core.Logic.{⊎_elim}
use Rattle.polars_arrays_words.specs.Bits.{is_bit, bit_of, first_of, window}
use Rattle.polars_arrays_words.proofs.Firsts.{length-first, get_or-first, first_same, first-append}
use Rattle.polars_arrays_words.proofs.SingleBits.{bit_at-shr}
use Rattle.polars_arrays_words.proofs.WrittenBits.{ones_bit}

-- the first values are true where each of them is, and not where one is false
pub all-first : (f : ℕ → Bool) (n : ℕ) → ((i : ℕ) → i < n → f i ≡ true) → list_all (λ b. b) (first_of f n) ≡ true
all-first f zero each = refl
all-first f (suc n) each =
    let next : suc n ≡ n + 1 = omega arith in
    let last : n + 0 ≡ n = omega arith in
    ap (λ m. list_all (λ b. b) (first_of f m)) next
    ∙ ap (list_all (λ b. b)) (first-append f n 1)
    ∙ list_all-append (λ b. b) (first_of f n) (first_of (λ i. f (n + i)) 1)
    ∙ ap₂ ◌&&◌ (all-first f n (λ i lt. each i (omega arith))) (ap (λ b. b && true) (ap f last ∙ each n (omega arith)))

pub not_all-first : (f : ℕ → Bool) (n i : ℕ) → i < n → f i ≡ false → list_all (λ b. b) (first_of f n) ≡ false
not_all-first f n i lt e =
    list_all_at (λ b. b) (first_of f n) i false (omega (arith, length-first f n)) (get_or-first f n i false lt ∙ e)

-- the n lowest bits of a word are true where as many ones stand at its end
pub trailing-tells :
    (word n : ℕ) (f : ℕ → Bool) → word < 2 ^ 64 → n ≤ 64 → ((i : ℕ) → i < 64 → is_bit word i ≡ f i) → leb n (trailing_ones w64 word) ≡ list_all (λ b. b) (first_of f n)
trailing-tells word n f fits few bits =
    ⊎_elim
    (λ below.
    let ones = bit_at-trailing_ones w64 word below in
    ⊎_elim
    (λ less.
    lt-leb n (trailing_ones w64 word) less
    ∙ sym (not_all-first f n (trailing_ones w64 word) less (sym (bits (trailing_ones w64 word) (omega arith)) ∙ ap (λ b. eqb b 1) ones.1)))
    (λ le.
    le-leb n (trailing_ones w64 word) le
    ∙ sym (all-first f n (λ i lt. sym (bits i (omega arith)) ∙ ap (λ b. eqb b 1) (ones.2 i (omega arith)))))
    (cases_lt (trailing_ones w64 word) n))
    (λ full.
    let max : word ≡ 2 ^ 64 - 1 = omega arith in
    let all : trailing_ones w64 word ≡ 64 = ap (trailing_ones w64) max ∙ trailing_of_zero 64 in
    le-leb n (trailing_ones w64 word) (omega (arith, all))
    ∙ sym (all-first f n (λ i lt. sym (bits i (omega arith)) ∙ ap (λ w. is_bit w i) max ∙ ones_bit i (omega arith))))
    (cases_lt (word + 1) (2 ^ 64))

-- the same from a later bit on, where the word is moved by less than all of its bits
pub later-tells :
    (word at n : ℕ) → word < 2 ^ 64 → at + n ≤ 64 → leb n (trailing_ones w64 (word / 2 ^ (at % 64))) ≡ list_all (λ b. b) (first_of (λ i. is_bit word (at + i)) n)
later-tells word at n fits within =
    ⊎_elim
    (λ below.
    let place : at % 64 ≡ at = omega arith in
    ap (λ k. leb n (trailing_ones w64 (word / 2 ^ k))) place
    ∙ trailing-tells (word / 2 ^ at) n (λ i. is_bit word (at + i)) (omega (arith, fits, div-le_self word (2 ^ at))) (omega arith) (λ i lt. ap (λ b. eqb b 1) (bit_at-shr word at i)))
    (λ past.
    let none : 0 ≡ n = omega arith in
    subst
    (λ m. leb m (trailing_ones w64 (word / 2 ^ (at % 64))) ≡ list_all (λ b. b) (first_of (λ i. is_bit word (at + i)) m))
    none
    (leb-zero (trailing_ones w64 (word / 2 ^ (at % 64)))))
    (cases_lt at 64)

-- a run, and the one after it
all-append :
    (words : List ℕ) (begin m n : ℕ) →
    list_all (λ b. b) (window begin (m + n) words) ≡ (list_all (λ b. b) (window begin m words) && list_all (λ b. b) (window (begin + m) n words))
all-append words begin m n =
    let same : first_of (λ i. bit_of words (begin + (m + i))) n ≡ window (begin + m) n words =
    first_same (λ i. bit_of words (begin + (m + i))) (λ i. bit_of words (begin + m + i)) n
    (λ i lt. let place : begin + (m + i) ≡ begin + m + i = omega arith in ap (bit_of words) place) in
    ap (list_all (λ b. b)) (first-append (λ i. bit_of words (begin + i)) m n ∙ ap (λ l. window begin m words ++ l) same)
    ∙ list_all-append (λ b. b) (window begin m words) (window (begin + m) n words)

-- after a run that is true, the rest decides
pub all-more :
    (words : List ℕ) (by at m n : ℕ) (more : Bool) → list_all (λ b. b) (window (by + at) m words) ≡ true →
    more ≡ list_all (λ b. b) (window (by + (at + m)) n words) → more ≡ list_all (λ b. b) (window (by + at) (m + n) words)
all-more words by at m n more before rest =
    let place : by + (at + m) ≡ by + at + m = omega arith in
    rest
    ∙ ap (λ p. list_all (λ b. b) (window p n words)) place
    ∙ sym (all-append words (by + at) m n ∙ ap (λ b. b && list_all (λ b. b) (window (by + at + m) n words)) before)

-- a run with a false bit, and more after it
pub all-fails : (words : List ℕ) (begin m n : ℕ) → list_all (λ b. b) (window begin m words) ≡ false → m ≤ n → list_all (λ b. b) (window begin n words) ≡ false
all-fails words begin m n e le =
    let split : n ≡ m + (n - m) = omega arith in
    ap (λ k. list_all (λ b. b) (window begin k words)) split
    ∙ all-append words begin m (n - m)
    ∙ ap (λ b. b && list_all (λ b. b) (window (begin + m) (n - m) words)) e
