-- Bits that say for which stored numbers there is a result, under masks.
use Rattle.std.proofs.Common.{◌≡◌, ◌&&◌, ℕ, zero, suc, Bool, true, false, not, List, [], ◌∷◌, Option, Some, None, length, map, replicate, refl, sym, ap, ap₂, subst, arith}
use Rattle.std.specs.Prelude.{ℤ, pos, negsuc}
use Rattle.std.specs.Ordering.{int_eq}
use Rattle.std.specs.Bool.{Decides}
use Rattle.std.proofs.lemmas.Bool.Decides.{Decides-int_eq}
use Rattle.std.proofs.lemmas.Simd.{length-zip2}
use Rattle.arrow_columns.specs.Comparing.{under}
use Rattle.polars_arrays_flat.specs.Validity.{HasBits}
use Rattle.polars_compute_arithmetic.specs.Zeros.{is_nonzero}

-- a mask has as many bits as an equal one
pub same-bits : (v w : Option (List Bool)) (m n : ℕ) → v ≡ w → m ≡ n → HasBits n w → HasBits m v
same-bits v w m n e f bits =
    subst (λ (u : Option (List Bool)). HasBits m u) (sym e) (subst (λ (k : ℕ). HasBits k w) (sym f) bits)

pub length-under : (mask : Option (List Bool)) (bits : List Bool) → HasBits (length bits) mask → length (under mask bits) ≡ length bits
length-under None bits has = refl
length-under (Some present) bits has = length-zip2 ◌&&◌ bits present (sym has)

pub one-bit : {A : Type 0} (b : Bool) (n : ℕ) (xs : List A) → n ≡ length xs → replicate n b ≡ map (λ x. b) xs
one-bit b zero [] e = refl
one-bit b zero (x ∷ xs) e = absurd (omega arith)
one-bit b (suc n) [] e = absurd (omega arith)
one-bit b (suc n) (x ∷ xs) e = ap (λ (bs : List Bool). b ∷ bs) (one-bit b n xs (omega arith))

by-test : (b : Bool) (a z : ℤ) → z ≡ pos 0 → Decides b (a ≡ z) → not b ≡ is_nonzero a
by-test true (pos zero) z e d = refl
by-test true (pos (suc n)) z e d = let h = d.0 refl in cc
by-test true (negsuc n) z e d = let h = d.0 refl in cc
by-test false (pos zero) z e d = let h = d.1 (sym e) in cc
by-test false (pos (suc n)) z e d = refl
by-test false (negsuc n) z e d = refl

unequal-zero : (a z : ℤ) → z ≡ pos 0 → not (int_eq a z) ≡ is_nonzero a
unequal-zero a z e = by-test (int_eq a z) a z e (Decides-int_eq a z)

pub nonzero-bits : {A : Type 0} (value : A → ℤ) (z : A) → value z ≡ pos 0 → (xs : List A) → map (λ x. not (int_eq (value x) (value z))) xs ≡ map (λ x. is_nonzero (value x)) xs
nonzero-bits value z e [] = refl
nonzero-bits value z e (x ∷ xs) =
    ap₂ (λ (b : Bool) (bs : List Bool). b ∷ bs) (unequal-zero (value x) (value z) e) (nonzero-bits value z e xs)
