-- A quotient of a number that is moved above 0.
use Rattle.std.proofs.Common.{◌≡◌, ◌∙◌, ◌+◌, ◌-◌, ◌*◌, ◌/◌, ◌%◌, ◌<◌, ◌≤◌, ℕ, refl, ap, arith, mod-lt, to_z, of_z}
use Rattle.std.specs.Int.{w32}
use Rattle.std.specs.Prelude.{ℤ, pos, negsuc, ◌+ℤ◌, ◌-ℤ◌, unsigned_abs}
use Rattle.std.proofs.lemmas.Int.{ints}
use Rattle.std.proofs.lemmas.Nat.{div-mul-add, div-add-mod'}
use Rattle.std.proofs.Math.Nat.{add-mul-div_left, div-le_self}
use Rattle.polars_compute_arithmetic.proofs.Quotient.{half-quotient}
use Rattle.polars_compute_arithmetic.specs.Quotients.{floor_by}

-- k times the divisor moves the quotient by k
pub floor-moved : (z : ℤ) (m n k : ℕ) → 2 ≤ m → unsigned_abs z ≤ k → pos n ≡ z +ℤ pos (k * m) → pos (n / m) -ℤ pos k ≡ floor_by z m
floor-moved (pos a) m n k two small e =
    let is : n ≡ a + m * k = omega (arith, ints, e) in
    let q : n / m ≡ a / m + k = ap (λ (y : ℕ). y / m) is ∙ add-mul-div_left a k (omega arith) in
    omega (arith, ints, q)
floor-moved (negsuc a) m n k two small e =
    let q : ℕ = a / m in
    let t : ℕ = a % m in
    let parts : q * m + t ≡ a = div-add-mod' a m in
    let rest : t < m = mod-lt a (omega arith) in
    let few : q ≤ a = div-le_self a m in
    let j : ℕ = k - 1 - q in
    let whole : k * m ≡ (j + q + 1) * m = ap (λ (y : ℕ). y * m) (omega (arith, few, small)) in
    let is : n ≡ j * m + (m - 1 - t) = omega (arith, ints, e, whole, parts, rest) in
    let r : n / m ≡ j = ap (λ (y : ℕ). y / m) is ∙ div-mul-add j m (m - 1 - t) (omega arith) in
    omega (arith, ints, r, few, small)

-- it is at most half of the number, and one more
pub half-floor : (z : ℤ) (m : ℕ) → 2 ≤ m → 2 * unsigned_abs (floor_by z m) ≤ unsigned_abs z + 1
half-floor (pos a) m two = omega (arith, half-quotient a m (a / m) two refl)
half-floor (negsuc a) m two = omega (arith, half-quotient a m (a / m) two refl)

-- the same as the code computes it, in 32 bits
pub moved-back : (x o : ℤ) (m n r : ℕ) → 2 ≤ m → m ≤ 32768 → unsigned_abs x ≤ 32768 → o ≡ pos (32768 * m) → n ≡ unsigned_abs (to_z w32 (of_z w32 (to_z w32 (of_z w32 x) +ℤ to_z w32 (of_z w32 o)))) → r ≡ n / m → 2 * r ≤ n
    → to_z w32 (of_z w32 (to_z w32 r -ℤ pos 32768)) ≡ floor_by x m
moved-back x o m n r two few small eo en er half =
    let is : pos n ≡ x +ℤ pos (32768 * m) = omega (arith, ints) in
    let back : to_z w32 (of_z w32 (to_z w32 r -ℤ pos 32768)) ≡ pos r -ℤ pos 32768 = omega (arith, ints) in
    back ∙ ap (λ (y : ℕ). pos y -ℤ pos 32768) er ∙ floor-moved x m n 32768 two small is
