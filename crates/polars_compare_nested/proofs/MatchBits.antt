-- Bits of words that say which lists match.
use Rattle.std.proofs.Common.{◌≡◌, ◌+◌, ◌-◌, ◌^◌, ◌<◌, ◌≤◌, ℕ, Bool, true, false, ◌&&◌, ◌||◌, eqb, List, length, get_or, min, sym, ap, ap₂, ◌∙◌, arith, bit_and, bit_or}
use Rattle.std.specs.Prelude.{Option}
use Rattle.std.proofs.Math.Bool.{and-true}
use Rattle.std.proofs.lemmas.Bool.{cases_lt}
use Rattle.std.proofs.lemmas.Nat.Bits.{bit_at-trailing_ones}
use Rattle.std.specs.Int.{trailing_ones, w64}
use Rattle.std.specs.Int.Count.{trailing_of_zero}
use mathlib.Core.Logic.{⊎_elim}
use Rattle.polars_arrays_flat.specs.Validity.{is_present, window}
use Rattle.polars_arrays_nested.specs.ListOffsets.{list_places, span}
use Rattle.polars_arrays_nested.specs.Parts.{list_offsets, list_validity}
use Rattle.polars_arrays_nested.specs.declared.list.ListArray.{ListArray}
use Rattle.polars_arrays_words.proofs.Firsts.{length-first, get_or-first}
use Rattle.polars_arrays_words.proofs.OperatorBits.{is_bit_and, is_bit_or}
use Rattle.polars_arrays_words.proofs.WrittenBits.{ones_bit}
use Rattle.polars_arrays_words.specs.Bits.{first_of, is_bit}
use Rattle.polars_arrays_words.specs.Packing.{IsPacked}
use Rattle.polars_compare_nested.specs.Runs.{Match, TellMatches, is_match, lists_of_width, same_counts, span_between}
use Rattle.polars_compare_nested.proofs.WindowBits.{get_or-window}

-- there is a bit for each pair of lists
pub length-counts : (all : List (Option ℕ)) (a : ℕ) (others : List (Option ℕ)) (b n : ℕ) → length (same_counts all a others b n) ≡ n
length-counts all a others b n = length-first (λ i. eqb (span_between all (a + i)) (span_between others (b + i))) n

get_or-counts : (all : List (Option ℕ)) (a : ℕ) (others : List (Option ℕ)) (b n i : ℕ) → i < n → get_or (same_counts all a others b n) i false ≡ eqb (span_between all (a + i)) (span_between others (b + i))
get_or-counts all a others b n i low = get_or-first (λ i. eqb (span_between all (a + i)) (span_between others (b + i))) n i false low

-- and for each list
pub length-width : (all : List (Option ℕ)) (a n width : ℕ) → length (lists_of_width all a n width) ≡ n
length-width all a n width = length-first (λ i. eqb (span_between all (a + i)) width) n

pub get_or-width : (all : List (Option ℕ)) (a n width i : ℕ) → i < n → get_or (lists_of_width all a n width) i false ≡ eqb (span_between all (a + i)) width
get_or-width all a n width i low = get_or-first (λ i. eqb (span_between all (a + i)) width) n i false low

-- the comparison of counts is such a bit
pub counts_value : (all : List (Option ℕ)) (a : ℕ) (others : List (Option ℕ)) (b n i count other : ℕ) → i < n → count ≡ span_between all (a + i) → other ≡ span_between others (b + i) → eqb count other ≡ get_or (same_counts all a others b n) i false
counts_value all a others b n i count other low here there = ap₂ eqb here there ∙ sym (get_or-counts all a others b n i low)

pub width_value : (all : List (Option ℕ)) (a n width i count : ℕ) → i < n → count ≡ span_between all (a + i) → eqb count width ≡ get_or (lists_of_width all a n width) i false
width_value all a n width i count low here = ap (λ k. eqb k width) here ∙ sym (get_or-width all a n width i low)

-- a bit of the first bits of a word, which are a window
pub window_bit : (word at n : ℕ) (bits : List Bool) → first_of (is_bit word) n ≡ window at n bits → (i : ℕ) → i < n → is_bit word i ≡ get_or bits (at + i) false
window_bit word at n bits e i low =
    sym (get_or-first (is_bit word) n i false low) ∙ ap (λ l. get_or l i false) e ∙ get_or-window at n bits i false low

pub packed_bit : (word n : ℕ) (values : List Bool) → IsPacked word values 0 n → (i : ℕ) → i < n → is_bit word i ≡ get_or values i false
packed_bit word n values packed i low =
    let place : 0 + i ≡ i = omega arith in
    packed.bits i low ∙ ap (λ p. get_or values p false) place

same_bit : (l r : ListArray) (a b n : ℕ) (all others : List (Option ℕ)) (same : ℕ) → all ≡ list_places (list_offsets l) → others ≡ list_places (list_offsets r) → IsPacked same (same_counts all a others b n) 0 n → (i : ℕ) → i < n → is_bit same i ≡ eqb (span (list_offsets l) (a + i)) (span (list_offsets r) (b + i))
same_bit l r a b n all others same e e' packed i low =
    packed_bit same n (same_counts all a others b n) packed i low
    ∙ get_or-counts all a others b n i low
    ∙ ap₂ (λ x y. eqb (span_between x (a + i)) (span_between y (b + i))) e e'

empty_bit : (l : ListArray) (a n : ℕ) (all : List (Option ℕ)) (empty : ℕ) → all ≡ list_places (list_offsets l) → IsPacked empty (lists_of_width all a n 0) 0 n → (i : ℕ) → i < n → is_bit empty i ≡ eqb (span (list_offsets l) (a + i)) 0
empty_bit l a n all empty e packed i low =
    packed_bit empty n (lists_of_width all a n 0) packed i low
    ∙ get_or-width all a n 0 i low
    ∙ ap (λ x. eqb (span_between x (a + i)) 0) e

-- the bits of a word say which lists are present on both sides
abbrev pub BothThere : ListArray → ℕ → ListArray → ℕ → ℕ → ℕ → Type 0
BothThere l a r b n present = (i : ℕ) → i < n → is_bit present i ≡ (is_present (list_validity l) (a + i) && is_present (list_validity r) (b + i))

pub both_bits : (l r : ListArray) (a b n left right : ℕ) → ((i : ℕ) → i < n → is_bit left i ≡ is_present (list_validity l) (a + i)) → ((i : ℕ) → i < n → is_bit right i ≡ is_present (list_validity r) (b + i)) → BothThere l a r b n (bit_and left right)
both_bits l r a b n left right here there i low = is_bit_and left right i ∙ ap₂ ◌&&◌ (here i low) (there i low)

-- lists match if they have equally many items, and are present or have none
pub match_word : (l r : ListArray) (a b n : ℕ) (all others : List (Option ℕ)) (same present empty : ℕ) → all ≡ list_places (list_offsets l) → others ≡ list_places (list_offsets r) → IsPacked same (same_counts all a others b n) 0 n → BothThere l a r b n present → IsPacked empty (lists_of_width all a n 0) 0 n → (i : ℕ) → i < n → is_bit (bit_and same (bit_or present empty)) i ≡ is_match l (a + i) r (b + i)
match_word l r a b n all others same present empty e e' counts there none i low =
    is_bit_and same (bit_or present empty) i
    ∙ ap₂ ◌&&◌ (same_bit l r a b n all others same e e' counts i low)
    (is_bit_or present empty i ∙ ap₂ ◌||◌ (there i low) (empty_bit l a n all empty e none i low))

-- so that counts decide where all lists are present
pub match_counts : (l r : ListArray) (a b n : ℕ) (all others : List (Option ℕ)) (same present full : ℕ) → all ≡ list_places (list_offsets l) → others ≡ list_places (list_offsets r) → IsPacked same (same_counts all a others b n) 0 n → BothThere l a r b n present → ((i : ℕ) → i < n → is_bit full i ≡ true) → present ≡ full → (i : ℕ) → i < n → is_bit same i ≡ is_match l (a + i) r (b + i)
match_counts l r a b n all others same present full e e' counts there ones is i low =
    let as_many : Bool = eqb (span (list_offsets l) (a + i)) (span (list_offsets r) (b + i)) in
    let none : Bool = eqb (span (list_offsets l) (a + i)) 0 in
    let both : (is_present (list_validity l) (a + i) && is_present (list_validity r) (b + i)) ≡ true =
    sym (there i low) ∙ ap (λ w. is_bit w i) is ∙ ones i low in
    same_bit l r a b n all others same e e' counts i low
    ∙ sym (ap (λ p. as_many && (p || none)) both ∙ and-true as_many)

-- the bits of a word up to the first that is false
pub record AreLeading (word n m : ℕ) : Type 0 where
  pub ones : (i : ℕ) → i < m → is_bit word i ≡ true
  pub end : m < n → is_bit word m ≡ false

pub leading : (word n m : ℕ) → word < 2 ^ 64 → n ≤ 64 → m ≡ min (trailing_ones w64 word) n → AreLeading word n m
leading word n m fits few is =
    ⊎_elim
    (λ below.
    let ones = bit_at-trailing_ones w64 word below in
    record {
      ones = λ i lt. ap (λ b. eqb b 1) (ones.2 i (omega (arith, is, lt)));
      end = λ lt.
          let last : m ≡ trailing_ones w64 word = omega (arith, is, lt) in
          ap (λ k. is_bit word k) last ∙ ap (λ b. eqb b 1) ones.1;
    })
    (λ full.
    let max : word ≡ 2 ^ 64 - 1 = omega arith in
    let all : trailing_ones w64 word ≡ 64 = ap (trailing_ones w64) max ∙ trailing_of_zero 64 in
    record {
      ones = λ i lt. ap (λ w. is_bit w i) max ∙ ones_bit i (omega (arith, is, lt, few));
      end = λ lt. absurd (omega (arith, is, all, few, lt));
    })
    (cases_lt (word + 1) (2 ^ 64))

-- lists that match, and more after them
pub match_append : (l r : ListArray) (a b m n : ℕ) → Match l a r b m → Match l (a + m) r (b + m) n → Match l a r b (m + n)
match_append l r a b m n before after k low =
    ⊎_elim
    (λ lt. before k lt)
    (λ past.
    let here : a + m + (k - m) ≡ a + k = omega (arith, past) in
    let there : b + m + (k - m) ≡ b + k = omega (arith, past) in
    rw (here, there) at (after (k - m) (omega (arith, past, low))))
    (cases_lt k m)

-- the lists match whose bits are true
pub leading_match : (l r : ListArray) (a b n word m : ℕ) → TellMatches l a r b n word → m ≤ n → ((i : ℕ) → i < m → is_bit word i ≡ true) → Match l a r b m
leading_match l r a b n word m tell within ones k low = sym (tell k (omega (arith, within, low))) ∙ ones k low

-- after others that match
pub match_behind : (l r : ListArray) (a b done n word m : ℕ) → Match l a r b done → TellMatches l (a + done) r (b + done) n word → m ≤ n → ((i : ℕ) → i < m → is_bit word i ≡ true) → Match l a r b (done + m)
match_behind l r a b done n word m before tell within ones =
    match_append l r a b done m before (leading_match l r (a + done) (b + done) n word m tell within ones)

-- and the list does not whose bit is false
pub end_apart : (l r : ListArray) (a b n word m : ℕ) → TellMatches l a r b n word → m < n → is_bit word m ≡ false → is_match l (a + m) r (b + m) ≡ false
end_apart l r a b n word m tell low end = sym (tell m low) ∙ end
