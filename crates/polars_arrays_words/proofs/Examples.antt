-- Worked examples of the definitions: the check computes both sides of each.
use Rattle.std.specs.Prelude.{◌≡◌, ◌+◌, ◌<◌, ◌≤◌, ℕ, zero, suc, true, false, not, eqb, [], ◌∷◌, ◌^◌, get_or, refl}
use Rattle.std.proofs.Common.{ap, arith}
use Rattle.std.proofs.lemmas.Nat.Bits.{bit_at_above}
use Rattle.std.specs.Simd.Lanes.{zip2}
use Rattle.polars_arrays_words.specs.Bits.{IsChanged, is_bit, bit_of, first_of, true_count, window, zip3}
use Rattle.polars_arrays_words.specs.Blocks.{blocks_all}
use Rattle.polars_arrays_words.specs.Packing.{IsPacked}
use Rattle.polars_arrays_words.specs.Logic.{xor, xnor, and_not, or_not, merged_eq, merged_ne}

-- 9 has the bits 0 and 3, and the lowest bit of the second word is bit 64
bit-in_second : bit_of (9 ∷ 1 ∷ []) 64 ≡ true
bit-in_second = refl

window-inside : window 3 2 (9 ∷ 1 ∷ []) ≡ true ∷ false ∷ []
window-inside = refl

window-across : window 62 4 (2 ^ 63 ∷ 1 ∷ []) ≡ false ∷ true ∷ true ∷ false ∷ []
window-across = refl

-- equal and present, two nulls, a null against a value, unequal
merged_eq-rows : zip3 merged_eq (true ∷ false ∷ true ∷ false ∷ []) (true ∷ false ∷ true ∷ true ∷ []) (true ∷ false ∷ false ∷ true ∷ []) ≡ true ∷ true ∷ false ∷ false ∷ []
merged_eq-rows = refl

merged_ne-rows : zip3 merged_ne (false ∷ true ∷ false ∷ true ∷ []) (true ∷ false ∷ true ∷ true ∷ []) (true ∷ false ∷ false ∷ true ∷ []) ≡ false ∷ false ∷ true ∷ true ∷ []
merged_ne-rows = refl

xor-of_same : xor true true ≡ false
xor-of_same = refl

-- the pairs of two truth values, from both true to both false
xnor-rows : zip2 xnor (true ∷ true ∷ false ∷ false ∷ []) (true ∷ false ∷ true ∷ false ∷ []) ≡ true ∷ false ∷ false ∷ true ∷ []
xnor-rows = refl

and_not-rows : zip2 and_not (true ∷ true ∷ false ∷ false ∷ []) (true ∷ false ∷ true ∷ false ∷ []) ≡ false ∷ true ∷ false ∷ false ∷ []
and_not-rows = refl

or_not-rows : zip2 or_not (true ∷ true ∷ false ∷ false ∷ []) (true ∷ false ∷ true ∷ false ∷ []) ≡ true ∷ true ∷ false ∷ true ∷ []
or_not-rows = refl

-- 5 has the bits 0 and 2
bit-lowest : is_bit 5 0 ≡ true
bit-lowest = refl

bit-unset : is_bit 5 1 ≡ false
bit-unset = refl

first_of-three : first_of (is_bit 5) 3 ≡ true ∷ false ∷ true ∷ []
first_of-three = refl

true_count-three : true_count (is_bit 5) 3 ≡ 2
true_count-three = refl

-- two blocks of two, and two of none
blocks_all-pairs : blocks_all 2 2 (true ∷ true ∷ true ∷ false ∷ []) ≡ true ∷ false ∷ []
blocks_all-pairs = refl

blocks_all-empty : blocks_all 0 2 [] ≡ true ∷ true ∷ []
blocks_all-empty = refl

-- from the second word up to the second there is none: no bit has changed
IsChanged-nowhere : IsChanged (λ p b. not b) (5 ∷ 7 ∷ []) (5 ∷ 7 ∷ []) 1 1
IsChanged-nowhere = record {
  count = refl;
  within = λ p from to. absurd (omega arith);
  below = λ p lt. refl;
  above = λ p le. refl;
}

-- the truth values true, false, true from place 1 on are the bits of 5
IsPacked-three : IsPacked 5 (false ∷ true ∷ false ∷ true ∷ []) 1 3
IsPacked-three = record { bits = bits; rest = rest }
  where
    bits : (i : ℕ) → i < 3 → is_bit 5 i ≡ get_or (false ∷ true ∷ false ∷ true ∷ []) (1 + i) false
    bits zero lt = refl
    bits (suc zero) lt = refl
    bits (suc (suc zero)) lt = refl
    bits (suc (suc (suc i))) lt = absurd (omega arith)

    rest : (i : ℕ) → 3 ≤ i → i < 64 → is_bit 5 i ≡ false
    rest i past lt = ap (λ n. eqb n 1) (bit_at_above 5 3 i (omega arith) past)
