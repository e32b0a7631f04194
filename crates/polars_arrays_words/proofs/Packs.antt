-- Flags of one byte each, packed into a word.
use Rattle.std.proofs.Common.{◌≡◌, ℕ, zero, suc, Bool, true, false, eqb, not, cond, List, [], ◌∷◌, get_or, map, replicate, refl, ap, ◌∙◌}
use Rattle.std.proofs.lemmas.Simd.{bit_mask_l}
use Rattle.std.specs.Simd.Lanes.{mask_l}
use Rattle.polars_arrays_words.specs.Bits.{is_bit}

test_cond : (b : Bool) → eqb (cond b 1 0) 1 ≡ b
test_cond true = refl
test_cond false = refl

flag_at : (flags : List ℕ) (k : ℕ) → get_or (map (λ x. not (eqb x 0)) flags) k false ≡ not (eqb (get_or flags k 0) 0)
flag_at [] k = refl
flag_at (x ∷ xs) zero = refl
flag_at (x ∷ xs) (suc k) = flag_at xs k

-- the bits of the word that a vector's test gives
pub is_bit-mask : (flags : List ℕ) (i : ℕ) → is_bit (mask_l (map (λ x. not (eqb x 0)) flags)) i ≡ not (eqb (get_or flags i 0) 0)
is_bit-mask flags i =
    ap (λ n. eqb n 1) (bit_mask_l (map (λ x. not (eqb x 0)) flags) i) ∙ test_cond (get_or (map (λ x. not (eqb x 0)) flags) i false) ∙ flag_at flags i

pub get_or-zeros : (n k : ℕ) → get_or {A = ℕ} (replicate n 0) k 0 ≡ 0
get_or-zeros zero k = refl
get_or-zeros (suc n) zero = refl
get_or-zeros (suc n) (suc k) = get_or-zeros n k

test_flag : (b : Bool) → not (eqb (cond b 1 0) 0) ≡ b
test_flag true = refl
test_flag false = refl

-- a flag that marks a value, and one that marks none
pub flag-marked : (flag : ℕ) (value : Bool) → flag ≡ cond value 1 0 → not (eqb flag 0) ≡ value
flag-marked flag value e = ap (λ x. not (eqb x 0)) e ∙ test_flag value

pub flag-other : (flag : ℕ) → flag ≡ 0 → not (eqb flag 0) ≡ false
flag-other flag e = ap (λ x. not (eqb x 0)) e
