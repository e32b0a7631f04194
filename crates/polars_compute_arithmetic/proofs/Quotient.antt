-- A quotient is a product with the divisor's reciprocal.
use Rattle.std.proofs.Common.{◌≡◌, ◌∙◌, ℕ, ◌+◌, ◌-◌, ◌*◌, ◌/◌, ◌%◌, ◌^◌, ◌<◌, ◌≤◌, sym, ap, arith, mod-lt}
use Rattle.std.proofs.Math.Nat.{lt_of_mul-lt-mul_left, add-mul-div_left, div-div-eq-div-mul}
use Rattle.std.proofs.lemmas.Nat.{div-mul-add, div-add-mod', mul-le, pow_pos}
use Rattle.polars_compute_arithmetic.specs.Reciprocal.{reciprocal}

-- the quotient between its bounds
between : (x p q : ℕ) → q * p ≤ x → x < (q + 1) * p → x / p ≡ q
between x p q low high =
    let e : x ≡ q * p + (x - q * p) = omega arith in
    let small : x - q * p < p = omega arith in
    ap (λ (y : ℕ). y / p) e ∙ div-mul-add q p (x - q * p) small

pub by_reciprocal : (a d p : ℕ) → 0 < p → 0 < d → a * (d - 1) < p → a * reciprocal p d / p ≡ a / d
by_reciprocal a d p hp hd small =
    let c : ℕ = (p - 1) / d in
    let r : ℕ = (p - 1) % d in
    let q : ℕ = a / d in
    let s : ℕ = a % d in
    let parts : c * d + r ≡ p - 1 = div-add-mod' (p - 1) d in
    let rest : r < d = mod-lt (p - 1) hd in
    let whole : q * d + s ≡ a = div-add-mod' a d in
    let left : s < d = mod-lt a hd in
    let below : q * c * d ≤ a * c = omega (arith, mul-le (q * d) c a c (omega arith) (omega arith)) in
    let more : q * (r + 1) ≤ q * d = mul-le q (r + 1) q d (omega arith) (omega arith) in
    let low : q * p ≤ a * (c + 1) =
    let e : p ≡ c * d + (r + 1) = omega arith in
    let t : q * p ≡ q * (c * d + (r + 1)) = ap (λ (x : ℕ). q * x) e in
    omega arith in
    let high : d * (a * (c + 1)) < d * ((q + 1) * p) =
    let e : (c + 1) * d ≡ p + (d - 1 - r) = omega arith in
    let t : a * ((c + 1) * d) ≡ a * (p + (d - 1 - r)) = ap (λ (x : ℕ). a * x) e in
    let u : a * (d - 1 - r) ≤ a * (d - 1) = mul-le a (d - 1 - r) a (d - 1) (omega arith) (omega arith) in
    let v : (a + 1) * p ≤ ((q + 1) * d) * p = mul-le (a + 1) p ((q + 1) * d) p (omega arith) (omega arith) in
    omega arith in
    between (a * (c + 1)) p q low (lt_of_mul-lt-mul_left d high)

-- a factor below 2 ^ 32, for a number up to 2 ^ 31
pub quotient_shifted : (a d s f x : ℕ) → a ≤ 2147483648 → 2 ≤ d → d ≤ 2 * 2 ^ s → f ≡ reciprocal (4294967296 * 2 ^ s) d → x ≡ d → a * f / 4294967296 / 2 ^ s ≡ a / x
quotient_shifted a d s f x ha hd hh ef ex =
    let one : 0 < 2 ^ s = pow_pos s in
    let small : a * (d - 1) < 4294967296 * 2 ^ s =
    let t : a * (d - 1) ≤ 2147483648 * (2 * 2 ^ s - 1) = mul-le a (d - 1) 2147483648 (2 * 2 ^ s - 1) ha (omega arith) in
    omega arith in
    div-div-eq-div-mul (a * f) 4294967296 (2 ^ s)
    ∙ ap (λ (y : ℕ). a * y / (4294967296 * 2 ^ s)) ef
    ∙ by_reciprocal a d (4294967296 * 2 ^ s) (omega arith) (omega arith) small
    ∙ ap (λ (y : ℕ). a / y) (sym ex)

-- a factor below 2 ^ 64, for a number up to 2 ^ 63
pub quotient_shifted-wide : (a d s f x : ℕ) → a ≤ 9223372036854775808 → 2 ≤ d → d ≤ 2 * 2 ^ s → f ≡ reciprocal (18446744073709551616 * 2 ^ s) d → x ≡ d → a * f / 18446744073709551616 / 2 ^ s ≡ a / x
quotient_shifted-wide a d s f x ha hd hh ef ex =
    let one : 0 < 2 ^ s = pow_pos s in
    let small : a * (d - 1) < 18446744073709551616 * 2 ^ s =
    let t : a * (d - 1) ≤ 9223372036854775808 * (2 * 2 ^ s - 1) = mul-le a (d - 1) 9223372036854775808 (2 * 2 ^ s - 1) ha (omega arith) in
    omega arith in
    div-div-eq-div-mul (a * f) 18446744073709551616 (2 ^ s)
    ∙ ap (λ (y : ℕ). a * y / (18446744073709551616 * 2 ^ s)) ef
    ∙ by_reciprocal a d (18446744073709551616 * 2 ^ s) (omega arith) (omega arith) small
    ∙ ap (λ (y : ℕ). a / y) (sym ex)

-- a factor from w up to 2 * w, of which f is what it has above w, for a number below w
pub quotient_carried : (a d s f w x : ℕ) → 0 < w → a < w → 2 ≤ d → d ≤ 2 * 2 ^ s → w + f ≡ reciprocal (w * (2 * 2 ^ s)) d → x ≡ d → (a + a * f / w) / 2 / 2 ^ s ≡ a / x
quotient_carried a d s f w x hw ha hd hh ef ex =
    let one : 0 < 2 ^ s = pow_pos s in
    let whole : a * (w + f) ≡ a * f + w * a = omega arith in
    let sum : a + a * f / w ≡ a * (w + f) / w =
    omega (arith, add-mul-div_left (a * f) a hw, ap (λ (y : ℕ). y / w) whole) in
    let below : a * (d - 1) ≤ a * (2 * 2 ^ s) = mul-le a (d - 1) a (2 * 2 ^ s) (omega arith) (omega arith) in
    let above : (a + 1) * (2 * 2 ^ s) ≤ w * (2 * 2 ^ s) = mul-le (a + 1) (2 * 2 ^ s) w (2 * 2 ^ s) (omega arith) (omega arith) in
    let small : a * (d - 1) < w * (2 * 2 ^ s) = omega arith in
    ap (λ (y : ℕ). y / 2 / 2 ^ s) sum
    ∙ div-div-eq-div-mul (a * (w + f) / w) 2 (2 ^ s)
    ∙ div-div-eq-div-mul (a * (w + f)) w (2 * 2 ^ s)
    ∙ ap (λ (y : ℕ). a * y / (w * (2 * 2 ^ s))) ef
    ∙ by_reciprocal a d (w * (2 * 2 ^ s)) (omega arith) (omega arith) small
    ∙ ap (λ (y : ℕ). a / y) (sym ex)

-- what a reciprocal has above v + 1, and that it is at most v
pub carried : (d v p q : ℕ) → p ≡ q → q ≤ d - 1 → d ≤ 2 * q → 2 ≤ d → q ≤ v + 1
    → (v + 1 + (((v + 1) * p - 1 + (v + 1) * p) / d - v) ≡ reciprocal ((v + 1) * (2 * q)) d) × (((v + 1) * p - 1 + (v + 1) * p) / d - v < v + 1)
carried d v p q e low high two small =
    let x : ℕ = (v + 1) * (2 * q) - 1 in
    let some : 1 * 1 ≤ (v + 1) * q = mul-le 1 1 (v + 1) q (omega arith) (omega arith) in
    let same : (v + 1) * p - 1 + (v + 1) * p ≡ x = ap (λ (y : ℕ). (v + 1) * y - 1 + (v + 1) * y) e ∙ omega arith in
    let parts : x / d * d + x % d ≡ x = div-add-mod' x d in
    let rest : x % d < d = mod-lt x (omega arith) in
    let wide : (v + 1) * d ≤ (v + 1) * (2 * q) = mul-le (v + 1) d (v + 1) (2 * q) (omega arith) high in
    let least : v < x / d + 1 = lt_of_mul-lt-mul_left d (omega arith) in
    let more : (2 * v + 1) * (q + 1) ≤ (2 * v + 1) * d = mul-le (2 * v + 1) (q + 1) (2 * v + 1) d (omega arith) (omega arith) in
    let greatest : x / d < 2 * v + 1 = lt_of_mul-lt-mul_left d (omega arith) in
    let t : ((v + 1) * p - 1 + (v + 1) * p) / d ≡ x / d = ap (λ (y : ℕ). y / d) same in
    (ap (λ (y : ℕ). v + 1 + (y - v)) t ∙ omega arith, omega arith)

-- a reciprocal that is at most v
pub shifted : (d v p q : ℕ) → p ≡ q → q ≤ d - 1 → 2 ≤ d → q ≤ v → 1 ≤ v
    → (((v + 1) * p - 1) / d + 1 ≡ reciprocal ((v + 1) * q) d) × (((v + 1) * p - 1) / d + 1 < v + 1)
shifted d v p q e low two small some =
    let x : ℕ = (v + 1) * q - 1 in
    let t : ((v + 1) * p - 1) / d ≡ x / d = ap (λ (y : ℕ). ((v + 1) * y - 1) / d) e in
    let parts : x / d * d + x % d ≡ x = div-add-mod' x d in
    let more : v * (q + 1) ≤ v * d = mul-le v (q + 1) v d (omega arith) (omega arith) in
    let one : v * 1 ≤ v * d = mul-le v 1 v d (omega arith) (omega arith) in
    let below : x / d < v = lt_of_mul-lt-mul_left d (omega arith) in
    (ap (λ (y : ℕ). y + 1) t, omega arith)

-- by 2 or more it is at most half of the number
pub half-quotient : (a d q : ℕ) → 2 ≤ d → q ≡ a / d → 2 * q ≤ a
half-quotient a d q h e =
    let k : a / d * d + a % d ≡ a = div-add-mod' a d in
    let m : q * 2 ≤ q * d = mul-le q 2 q d (omega arith) h in
    let t : q * d ≡ a / d * d = ap (λ (y : ℕ). y * d) e in
    omega arith
