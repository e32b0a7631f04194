-- Bytes that are compared all at once.
use Rattle.std.proofs.Common.{◌≡◌, ◌↔◌, ◌+◌, ◌*◌, ◌%◌, ◌^◌, ◌-◌, ◌≤◌, ℕ, Bool, true, false, not, eqb, nat_eq, cond, IsTrue, List, [], ◌∷◌, length, map, refl, sym, ap, ap₂, ◌∙◌, arith}
use Rattle.std.proofs.lemmas.Bool.{both_ways}
use Rattle.std.proofs.lemmas.Bool.Decides.{Decides-eqb}
use Rattle.std.proofs.lemmas.Simd.{tops_compared, mask_l-mod, length-zip2}
use Rattle.std.specs.Simd.Lanes.{mask_l, top, zip2}
use mir.Syntax.{w8}
use mir.Val.{bits, hbits}

abbrev differs : ℕ → ℕ → Bool
differs x y = not (eqb x y)

no_bit : (b : Bool) (rest : ℕ) → cond b 1 0 + 2 * rest ≡ 0 → (b ≡ false) × (rest ≡ 0)
no_bit true rest e = absurd (omega arith)
no_bit false rest e = (refl, omega arith)

same_number : (x y : ℕ) (b : Bool) → b ≡ eqb x y → not b ≡ false → x ≡ y
same_number x y true e told = (Decides-eqb x y).0 (sym e)
same_number x y false e told = absurd (both_ways true told refl)

-- where no bit is set, the bytes are the same
same_from_mask : (xs ys : List ℕ) → length xs ≡ length ys → mask_l (zip2 differs xs ys) ≡ 0 → xs ≡ ys
same_from_mask [] [] size none = refl
same_from_mask [] (y ∷ ys) size none = absurd (omega arith)
same_from_mask (x ∷ xs) [] size none = absurd (omega arith)
same_from_mask (x ∷ xs) (y ∷ ys) size none =
    let parts = no_bit (differs x y) (mask_l (zip2 differs xs ys)) none in
    ap₂ (λ (z : ℕ) (zs : List ℕ). z ∷ zs) (same_number x y (eqb x y) refl parts.0) (same_from_mask xs ys (omega arith) parts.1)

not_other : (x : ℕ) → differs x x ≡ false
not_other x = ap not ((Decides-eqb x x).1 refl)

mask_from_same : (xs : List ℕ) → mask_l (zip2 differs xs xs) ≡ 0
mask_from_same [] = refl
mask_from_same (x ∷ xs) = ap₂ (λ (b : Bool) (rest : ℕ). cond b 1 0 + 2 * rest) (not_other x) (mask_from_same xs)

-- the mask of a vector's test of sixteen bytes beside sixteen
pub same_by_mask :
    (xs ys : List ℕ) → length xs ≡ 16 → length ys ≡ 16 →
    IsTrue (nat_eq (mask_l (map (top (hbits w8)) (zip2 (λ a b. cond (differs a b) (2 ^ bits w8 - 1) 0) xs ys)) % 2 ^ 64) 0) ↔ (xs ≡ ys)
same_by_mask xs ys size size_too =
    let tops = tops_compared w8 differs xs ys in
    let few : length (zip2 differs xs ys) ≤ 64 = omega (arith, length-zip2 differs xs ys (size ∙ sym size_too), size) in
    let mask = ap (λ ms. mask_l ms % 2 ^ 64) tops ∙ mask_l-mod (zip2 differs xs ys) 64 few in (
      (λ none. same_from_mask xs ys (size ∙ sym size_too) (sym mask ∙ (Decides-eqb _ 0).0 none)),
      (λ same. (Decides-eqb _ 0).1 (mask ∙ ap (λ zs. mask_l (zip2 differs xs zs)) (sym same) ∙ mask_from_same xs)),
    )
