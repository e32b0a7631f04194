-- Worked examples of the definitions: the check computes both sides of each.
use Rattle.std.specs.Prelude.{◌≡◌, pos, negsuc, true, false, not, [], ◌∷◌, Some, None, bit_and, bit_xor, count_by, map, refl}
use Rattle.std.specs.List.{list_all, list_any}
use Rattle.polars_arrays_flat.specs.Row.{Null, Int, Truth}
use Rattle.polars_arrays_numbers.specs.Ranges.{least_of}
use Rattle.polars_arrays_numbers.specs.Wrapping.{wrapped}
use Rattle.polars_compute_reductions.specs.Bitwise.{counted, is_odd, joined_bits, leading_run, number_bits, pattern, place_bits, reduced, row_bits, trailing_run, truth_count}
use Rattle.polars_compute_reductions.specs.Sum.{addend, total, wrapped_sum}

addend-null : addend Null ≡ pos 0
addend-null = refl

total-null : total (Null ∷ Int (pos 5) ∷ Int (negsuc 6) ∷ []) ≡ negsuc 1
total-null = refl

-- u8 [200, null, 100] sums to 44
total-wrapped : wrapped (least_of false 8) 8 (total (Int (pos 200) ∷ Null ∷ Int (pos 100) ∷ [])) ≡ pos 44
total-wrapped = refl

sum-wrapped : wrapped_sum (least_of true 8) 8 (pos 127) (pos 1) ≡ negsuc 127
sum-wrapped = refl

pattern-negative : pattern 8 (negsuc 0) ≡ 255
pattern-negative = refl

bits-of-six : number_bits 8 (pos 6) ≡ false ∷ true ∷ true ∷ false ∷ false ∷ false ∷ false ∷ false ∷ []
bits-of-six = refl

bits-of-truth : row_bits 1 (Truth true) ≡ true ∷ []
bits-of-truth = refl

trailing-zeros : trailing_run not (number_bits 8 (pos 6)) ≡ 1
trailing-zeros = refl

leading-zeros : leading_run not (number_bits 8 (pos 6)) ≡ 5
leading-zeros = refl

-- i8 [-1, 0, null] has 8 and 0 ones, and null
counted-ones : map (counted (count_by (λ b. b)) 8) (Int (negsuc 0) ∷ Int (pos 0) ∷ Null ∷ []) ≡ Int (pos 8) ∷ Int (pos 0) ∷ Null ∷ []
counted-ones = refl

-- and 0 and 8 zeros at the lowest end
counted-zeros : map (counted (trailing_run not) 8) (Int (negsuc 0) ∷ Int (pos 0) ∷ Null ∷ []) ≡ Int (pos 0) ∷ Int (pos 8) ∷ Null ∷ []
counted-zeros = refl

second-bits : place_bits 8 1 (Int (pos 6) ∷ Null ∷ Int (pos 1) ∷ []) ≡ true ∷ false ∷ []
second-bits = refl

odd-trues : is_odd (true ∷ false ∷ true ∷ true ∷ []) ≡ true
odd-trues = refl

-- u8 [1, null, 3] is reduced to 2 by exclusive or
reduced-odd : reduced is_odd 8 (Int (pos 1) ∷ Null ∷ Int (pos 3) ∷ []) ≡ Some (number_bits 8 (pos 2))
reduced-odd = refl

reduced-any : reduced (list_any (λ b. b)) 8 (Int (pos 1) ∷ Null ∷ Int (pos 6) ∷ []) ≡ Some (number_bits 8 (pos 7))
reduced-any = refl

-- truth values [true, null] are reduced to true by and
reduced-truths : reduced (list_all (λ b. b)) 1 (Truth true ∷ Null ∷ []) ≡ Some (true ∷ [])
reduced-truths = refl

reduced-none : reduced (list_all (λ b. b)) 8 (Null ∷ Null ∷ []) ≡ None
reduced-none = refl

-- -2 and 7 have the bits of 6 in common
joined-and : joined_bits bit_and (least_of true 8) 8 (negsuc 1) (pos 7) ≡ pos 6
joined-and = refl

joined-xor : joined_bits bit_xor (least_of true 8) 8 (negsuc 0) (pos 7) ≡ negsuc 7
joined-xor = refl

zero-of-false : truth_count false false ≡ 1
zero-of-false = refl
