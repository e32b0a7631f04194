-- Quotients and moduli for a divisor b other than 0, by products and order alone. A number q lies
-- between 0 and a / b exactly if q times b lies between 0 and a.
use Rattle.std.specs.Prelude.{◌≡◌, ◌≢◌, ◌<◌, ◌≤◌, ◌≤ℤ◌, ◌↔◌, ◌+ℤ◌, ◌-ℤ◌, ◌*ℤ◌, ℕ, ℤ, pos, negsuc}
use Rattle.std.specs.Prelude.{unsigned_abs}
use Rattle.polars_compute_arithmetic.specs.Quotients.{floor_quotient, modulus, truncated_quotient}

-- q is not above a / b
abbrev pub IsNotAbove : ℤ → ℤ → ℤ → Type 0
IsNotAbove q a (pos n) = (q *ℤ pos n) ≤ℤ a
IsNotAbove q a (negsuc n) = a ≤ℤ (q *ℤ negsuc n)

-- q is the greatest whole number that is at most a / b
pub record IsGreatestNotAbove (q a b : ℤ) : Type 0 where
  pub not_above : IsNotAbove q a b
  pub greatest : (r : ℤ) → IsNotAbove r a b → r ≤ℤ q

-- x lies between 0 and a, ends included
abbrev pub IsFromZeroTo : ℤ → ℤ → Type 0
IsFromZeroTo (pos n) x = (pos 0 ≤ℤ x) × (x ≤ℤ pos n)
IsFromZeroTo (negsuc n) x = (negsuc n ≤ℤ x) × (x ≤ℤ pos 0)

-- the distance of q from a / b, times the magnitude of b
abbrev pub distance : ℤ → ℤ → ℤ → ℕ
distance q a b = unsigned_abs (a -ℤ q *ℤ b)

-- q is the whole number nearest to a / b among those between 0 and a / b
pub record IsNearestTowardZero (q a b : ℤ) : Type 0 where
  pub from_zero : IsFromZeroTo a (q *ℤ b)
  pub nearest : (r : ℤ) → IsFromZeroTo a (r *ℤ b) → distance q a b ≤ distance r a b

-- m is 0 or has the sign of b
abbrev pub HasSignOf : ℤ → ℤ → Type 0
HasSignOf (pos n) m = pos 0 ≤ℤ m
HasSignOf (negsuc n) m = m ≤ℤ pos 0

-- m is a minus a multiple of b, is 0 or has the sign of b, and has a smaller magnitude than b
pub record IsRest (m a b : ℤ) : Type 0 where
  pub left : (k : ℤ) × (k *ℤ b +ℤ m ≡ a)
  pub sign : HasSignOf b m
  pub smaller : unsigned_abs m < unsigned_abs b

-- the floor quotient is the greatest whole number that is at most a / b, and the only one
abbrev pub FloorIsGreatest : Type 0
FloorIsGreatest = (a b q : ℤ) → b ≢ pos 0 → (q ≡ floor_quotient a b) ↔ IsGreatestNotAbove q a b

-- the truncated quotient is the whole number nearest to a / b on the side of 0, and the only one
abbrev pub TruncatedIsNearest : Type 0
TruncatedIsNearest =
    (a b q : ℤ) → b ≢ pos 0 → (q ≡ truncated_quotient a b) ↔ IsNearestTowardZero q a b

-- the modulus is the remainder that is 0 or has the divisor's sign, and the only one
abbrev pub ModulusIsRest : Type 0
ModulusIsRest = (a b m : ℤ) → b ≢ pos 0 → (m ≡ modulus a b) ↔ IsRest m a b

-- the floor quotient times the divisor, plus the modulus, is the dividend
abbrev pub FloorLeavesModulus : Type 0
FloorLeavesModulus = (a b : ℤ) → b ≢ pos 0 → floor_quotient a b *ℤ b +ℤ modulus a b ≡ a
