-- Reductions of numbers, bit by bit.
use Rattle.std.proofs.Common.{◌≡◌, ◌<◌, ◌≤◌, ◌+◌, ◌-◌, ◌%◌, ◌^◌, ◌∙◌, ℕ, zero, suc, Bool, true, false, ◌&&◌, ◌||◌, cond, eqb, List, [], ◌∷◌, map, get_or, refl, sym, ap, ap₂, arith, count_by, bit_and, bit_or, bit_xor}
use Rattle.std.specs.Prelude.{ℤ, pos, Option, None, Some, option_map}
use Rattle.std.specs.List.{list_all, list_any, range_with_len}
use Rattle.std.proofs.lemmas.Bool.Decides.{nat_tests}
use Rattle.std.proofs.lemmas.List.FromFn.{get_or-map-range_with_len}
use Rattle.std.proofs.lemmas.List.Recursion.{is_count_by}
use Rattle.std.proofs.lemmas.Nat.{pow_pos}
use Rattle.std.proofs.lemmas.Nat.Bits.{bit_at-zero, bit_at_ones}
use Rattle.polars_arrays_flat.specs.Row.{Row, Null, Int, Truth, Bytes, Rows, Fields, Entry}
use Rattle.polars_arrays_flat.specs.StoredRows.{masked, number_slots, rows_under}
use Rattle.polars_compute_reductions.specs.Folds.{folded, folded_if_any, none_present}
use Rattle.polars_arrays_numbers.specs.Wrapping.{wrapped}
use Rattle.polars_arrays_words.specs.Bits.{first_of, is_bit}
use Rattle.polars_arrays_words.specs.Logic.{xor}
use Rattle.polars_compute_reductions.specs.BitLaws.{BitOperator, and_operator, joined-pattern, or_operator, pattern-wrapped, xor_operator}
use Rattle.polars_compute_reductions.specs.Bitwise.{is_odd, joined_bits, number_bits, pattern, place_bits, reduced}

-- ---- lists of bits

same-range : (f g : ℕ → Bool) (from n : ℕ) → ((i : ℕ) → from ≤ i → i < from + n → f i ≡ g i) → map f (range_with_len from n) ≡ map g (range_with_len from n)
same-range f g from zero same = refl
same-range f g from (suc n) same =
    let first = same from (omega arith) (omega arith) in
    let rest = same-range f g (from + 1) n (λ i low high. same i (omega arith) (omega arith)) in
    cc

pub first-same : (f g : ℕ → Bool) (n : ℕ) → ((i : ℕ) → i < n → f i ≡ g i) → first_of f n ≡ first_of g n
first-same f g n same = same-range f g 0 n (λ i low high. same i (omega (arith, high)))

-- ---- rows that are numbers

-- no row but numbers and nulls
abbrev pub AreNumbers : List Row → Type 0
AreNumbers [] = Unit {0}
AreNumbers (Null ∷ rows) = AreNumbers rows
AreNumbers (Int n ∷ rows) = AreNumbers rows
AreNumbers (row ∷ rows) = ⊥

slots-numbers : {A : Type 0} (value : A → ℤ) (xs : List A) → AreNumbers (number_slots value xs)
slots-numbers value [] = tt
slots-numbers value (x ∷ xs) = slots-numbers value xs

masked-numbers : {A : Type 0} (value : A → ℤ) (bits : List Bool) (xs : List A) → AreNumbers (masked bits (number_slots value xs))
masked-numbers value [] xs = tt
masked-numbers value (bit ∷ bits) [] = tt
masked-numbers value (true ∷ bits) (x ∷ xs) = masked-numbers value bits xs
masked-numbers value (false ∷ bits) (x ∷ xs) = masked-numbers value bits xs

pub rows-numbers : {A : Type 0} (value : A → ℤ) (validity : Option (List Bool)) (xs : List A) → AreNumbers (rows_under validity (number_slots value xs))
rows-numbers value None xs = slots-numbers value xs
rows-numbers value (Some bits) xs = masked-numbers value bits xs

-- ---- an operator on bits, and the test of a list that it folds to

module _ (operator : ℕ → ℕ → ℕ) (bit : Bool → Bool → Bool) (neutral : Bool) (law : BitOperator operator bit neutral) (test : List Bool → Bool) (test_none : test [] ≡ neutral) (test_more : (b : Bool) (bs : List Bool) → test (b ∷ bs) ≡ bit b (test bs)) (least : ℤ) (width start : ℕ) (small : start < 2 ^ width) (starts : (i : ℕ) → i < width → is_bit start i ≡ neutral) where
  number-bit : (n : ℤ) (i : ℕ) → i < width → get_or (number_bits width n) i false ≡ is_bit (pattern width n) i
  number-bit n i h = get_or-map-range_with_len (is_bit (pattern width n)) 0 width i i false h (omega arith)

  joined-bit : (a b : ℤ) (i : ℕ) → is_bit (pattern width (joined_bits operator least width a b)) i ≡ bit (is_bit (pattern width a) i) (is_bit (pattern width b) i)
  joined-bit a b i = ap (λ x. is_bit x i) (joined-pattern operator bit neutral law least width start small starts a b) ∙ law.bits (pattern width a) (pattern width b) i

  folded-bit : (rows : List Row) → AreNumbers rows → (i : ℕ) → i < width → is_bit (pattern width (folded (joined_bits operator least width) (wrapped least width (pos start)) rows)) i ≡ test (place_bits width i rows)
  folded-bit [] are i h = ap (λ x. is_bit x i) (pattern-wrapped least width start small) ∙ starts i h ∙ sym test_none
  folded-bit (Null ∷ rows) are i h = folded-bit rows are i h
  folded-bit (Int n ∷ rows) are i h =
      joined-bit n (folded (joined_bits operator least width) (wrapped least width (pos start)) rows) i
      ∙ ap₂ bit (sym (number-bit n i h)) (folded-bit rows are i h)
      ∙ sym (test_more (get_or (number_bits width n) i false) (place_bits width i rows))
  folded-bit (Truth x ∷ rows) are i h = absurd are
  folded-bit (Bytes x ∷ rows) are i h = absurd are
  folded-bit (Rows x ∷ rows) are i h = absurd are
  folded-bit (Fields x ∷ rows) are i h = absurd are
  folded-bit (Entry x ∷ rows) are i h = absurd are

  given : (none : Bool) (x : ℤ) (bits : List Bool) → number_bits width x ≡ bits → option_map (number_bits width) (cond none None (Some x)) ≡ cond none None (Some bits)
  given true x bits e = refl
  given false x bits e = ap (λ (b : List Bool). Some b) e

  composed : {A : Type 0} (value : A → ℤ) (r : Option A) → option_map (λ x. number_bits width (value x)) r ≡ option_map (number_bits width) (option_map value r)
  composed value None = refl
  composed value (Some x) = refl

  -- what numbers are folded to has the bits that rows are reduced to
  pub reduces : {A : Type 0} (value : A → ℤ) (rows : List Row) (result : Option A) → AreNumbers rows → option_map value result ≡ folded_if_any (joined_bits operator least width) (wrapped least width (pos start)) rows → option_map (λ x. number_bits width (value x)) result ≡ reduced test width rows
  reduces value rows result are e =
      composed value result
      ∙ ap (option_map (number_bits width)) e
      ∙ given (none_present rows) (folded (joined_bits operator least width) (wrapped least width (pos start)) rows) _
      (first-same (is_bit (pattern width (folded (joined_bits operator least width) (wrapped least width (pos start)) rows))) (λ i. test (place_bits width i rows)) width (folded-bit rows are))

  -- and two numbers joined those that the two rows are reduced to
  pub reduces_two : (a b r : ℤ) → r ≡ joined_bits operator least width a b → Some (number_bits width r) ≡ reduced test width (Int a ∷ Int b ∷ [])
  reduces_two a b r e =
      ap (λ (x : ℤ). Some (number_bits width x)) e
      ∙ ap (λ (bits : List Bool). Some bits)
      (first-same (is_bit (pattern width (joined_bits operator least width a b))) (λ i. test (place_bits width i (Int a ∷ Int b ∷ []))) width
      (λ i h.
      joined-bit a b i
      ∙ ap₂ bit (sym (number-bit a i h)) (sym (law.with_neutral (is_bit (pattern width b) i)) ∙ law.any_order neutral (is_bit (pattern width b) i) ∙ ap₂ bit (sym (number-bit b i h)) (sym test_none) ∙ sym (test_more (get_or (number_bits width b) i false) []))
      ∙ sym (test_more (get_or (number_bits width a) i false) (get_or (number_bits width b) i false ∷ []))))

-- ---- odd numbers of bits

abbrev pub trues : List Bool → ℕ
trues [] = 0
trues (b ∷ bs) = cond b 1 0 + trues bs

trues-step : (b : Bool) (n : ℕ) → cond b 1 0 + n ≡ cond b (1 + n) n
trues-step true n = refl
trues-step false n = omega arith

pub trues-are : (bs : List Bool) → trues bs ≡ count_by (λ b. b) bs
trues-are bs = is_count_by trues (λ b. b) refl (λ b rest. trues-step b (trues rest)) bs

odd-step : (b : Bool) (n : ℕ) → eqb ((cond b 1 0 + n) % 2) 1 ≡ xor b (eqb (n % 2) 1)
odd-step true n = odd-next n
  where
    odd-next : (n : ℕ) → eqb ((1 + n) % 2) 1 ≡ xor true (eqb (n % 2) 1)
    odd-next n = grind (arith, nat_tests)
odd-step false n = even-next n
  where
    even-next : (n : ℕ) → eqb ((0 + n) % 2) 1 ≡ xor false (eqb (n % 2) 1)
    even-next n = grind (arith, nat_tests)

odd-more : (b : Bool) (bs : List Bool) → is_odd (b ∷ bs) ≡ xor b (is_odd bs)
odd-more b bs =
    ap (λ n. eqb (n % 2) 1) (sym (trues-are (b ∷ bs)))
    ∙ odd-step b (trues bs)
    ∙ ap (λ n. xor b (eqb (n % 2) 1)) (trues-are bs)

ones_small : (width : ℕ) → 2 ^ width - 1 < 2 ^ width
ones_small width = omega (arith, pow_pos width)

-- ---- the three of them

module _ {A : Type 0} (value : A → ℤ) (least : ℤ) (width : ℕ) where
  pub and_reduces : (rows : List Row) (result : Option A) → AreNumbers rows → option_map value result ≡ folded_if_any (joined_bits bit_and least width) (wrapped least width (pos (2 ^ width - 1))) rows → option_map (λ x. number_bits width (value x)) result ≡ reduced (list_all (λ b. b)) width rows
  and_reduces = reduces bit_and ◌&&◌ true and_operator (list_all (λ b. b)) refl (λ b bs. refl) least width (2 ^ width - 1) (ones_small width) (λ i h. ap (λ d. eqb d 1) (bit_at_ones width i h)) value

  pub or_reduces : (rows : List Row) (result : Option A) → AreNumbers rows → option_map value result ≡ folded_if_any (joined_bits bit_or least width) (wrapped least width (pos 0)) rows → option_map (λ x. number_bits width (value x)) result ≡ reduced (list_any (λ b. b)) width rows
  or_reduces = reduces bit_or ◌||◌ false or_operator (list_any (λ b. b)) refl (λ b bs. refl) least width 0 (pow_pos width) (λ i h. ap (λ d. eqb d 1) (bit_at-zero i)) value

  pub xor_reduces : (rows : List Row) (result : Option A) → AreNumbers rows → option_map value result ≡ folded_if_any (joined_bits bit_xor least width) (wrapped least width (pos 0)) rows → option_map (λ x. number_bits width (value x)) result ≡ reduced is_odd width rows
  xor_reduces = reduces bit_xor xor false xor_operator is_odd refl odd-more least width 0 (pow_pos width) (λ i h. ap (λ d. eqb d 1) (bit_at-zero i)) value

module _ (least : ℤ) (width : ℕ) where
  pub and_reduces_two : (a b r : ℤ) → r ≡ joined_bits bit_and least width a b → Some (number_bits width r) ≡ reduced (list_all (λ x. x)) width (Int a ∷ Int b ∷ [])
  and_reduces_two = reduces_two bit_and ◌&&◌ true and_operator (list_all (λ b. b)) refl (λ b bs. refl) least width (2 ^ width - 1) (ones_small width) (λ i h. ap (λ d. eqb d 1) (bit_at_ones width i h))

  pub or_reduces_two : (a b r : ℤ) → r ≡ joined_bits bit_or least width a b → Some (number_bits width r) ≡ reduced (list_any (λ x. x)) width (Int a ∷ Int b ∷ [])
  or_reduces_two = reduces_two bit_or ◌||◌ false or_operator (list_any (λ b. b)) refl (λ b bs. refl) least width 0 (pow_pos width) (λ i h. ap (λ d. eqb d 1) (bit_at-zero i))

  pub xor_reduces_two : (a b r : ℤ) → r ≡ joined_bits bit_xor least width a b → Some (number_bits width r) ≡ reduced is_odd width (Int a ∷ Int b ∷ [])
  xor_reduces_two = reduces_two bit_xor xor false xor_operator is_odd refl odd-more least width 0 (pow_pos width) (λ i h. ap (λ d. eqb d 1) (bit_at-zero i))
