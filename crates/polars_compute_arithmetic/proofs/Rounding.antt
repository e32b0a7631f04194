-- The quotient that is rounded down, from the one that is rounded toward 0.
use Rattle.std.proofs.Common.{◌≡◌, ◌≢◌, ◌∙◌, ◌+◌, ◌-◌, ◌*◌, ◌/◌, ◌%◌, ◌<◌, ◌≤◌, ℕ, zero, suc, Bool, true, false, refl, sym, ap, arith, mod-lt}
use Rattle.std.specs.Prelude.{ℤ, pos, negsuc, neg_ℤ, ◌+ℤ◌, ◌-ℤ◌, ◌*ℤ◌, ◌≤ℤ◌, int_div, int_rem, Some, None}
use Rattle.std.proofs.lemmas.Int.{ints, quot-rem}
use Rattle.std.proofs.lemmas.Nat.{div-mul-add, div-add-mod'}
use Rattle.std.proofs.Math.IntN.{*ℤ_comm}
use Rattle.std.proofs.Math.Nat.{div-le_self, mod-le}
use Rattle.polars_arrays_numbers.specs.Wrapping.{HasAllOf, wrapped}
use Rattle.polars_compute_arithmetic.specs.Operations.{unless_zero, or_zero, floor_division, truncated_division, modulo}
use Rattle.polars_compute_arithmetic.specs.Quotients.{floor_quotient, truncated_quotient, modulus, is_above, is_below, across}
use Rattle.polars_compute_arithmetic.specs.WrapLaws.{distrib, neg_mul, wrapped-mul_left, wrapped-sub_right, wrapped-within}
use Rattle.polars_arrays_numbers.specs.WrappingLaws.{wrapped-add}

pub unless_zero-is : (f : ℤ → ℤ → ℤ) (a b : ℤ) → b ≢ pos 0 → unless_zero f a b ≡ Some (f a b)
unless_zero-is f a (pos zero) h = absurd (h refl)
unless_zero-is f a (pos (suc n)) h = refl
unless_zero-is f a (negsuc n) h = refl

pub unless_zero-none : (f : ℤ → ℤ → ℤ) (a b : ℤ) → b ≡ pos 0 → unless_zero f a b ≡ None
unless_zero-none f a b h = ap (unless_zero f a) h

abbrev pub floor_from : Bool → ℤ → ℤ
floor_from true q = q -ℤ pos 1
floor_from false q = q

abbrev pub modulus_from : Bool → ℤ → ℤ → ℤ
modulus_from true rest b = rest +ℤ b
modulus_from false rest b = rest

-- the quotient of the number before
before-exact : (a d : ℕ) → 0 < d → suc a % d ≡ 0 → a / d + 1 ≡ suc a / d
before-exact a d some e =
    let q : ℕ = suc a / d in
    let k : q * d + suc a % d ≡ suc a = div-add-mod' (suc a) d in
    let whole : q * d ≡ suc a = omega (arith, k, e) in
    let more : 0 < q = positive q whole in
    let split : (q - 1 + 1) * d ≡ suc a = ap (λ (x : ℕ). x * d) (again q more) ∙ whole in
    let is : a ≡ (q - 1) * d + (d - 1) = less (q - 1) d a some split in
    let t : a / d ≡ q - 1 = ap (λ (x : ℕ). x / d) is ∙ div-mul-add (q - 1) d (d - 1) (omega arith) in
    omega arith
  where
    positive : (q : ℕ) → q * d ≡ suc a → 0 < q
    positive zero w = absurd (omega arith)
    positive (suc q) w = omega arith

    again : (q : ℕ) → 0 < q → q - 1 + 1 ≡ q
    again q more = omega arith

    less : (q d a : ℕ) → 0 < d → (q + 1) * d ≡ suc a → a ≡ q * d + (d - 1)
    less q d a some w = omega arith

before-rest : (a d r : ℕ) → 0 < d → suc a % d ≡ suc r → a / d ≡ suc a / d
before-rest a d r some e =
    let q : ℕ = suc a / d in
    let k : q * d + suc a % d ≡ suc a = div-add-mod' (suc a) d in
    let small : suc a % d < d = mod-lt (suc a) some in
    let is : a ≡ q * d + r = omega (arith, k, e) in
    ap (λ (x : ℕ). x / d) is ∙ div-mul-add q d r (omega (arith, small, e))

down : (a d r : ℕ) → 0 < d → suc a % d ≡ r → negsuc (a / d) ≡ floor_from (is_below (neg_ℤ (pos r))) (neg_ℤ (pos (suc a / d)))
down a d zero some e = omega (arith, ints, before-exact a d some e)
down a d (suc r) some e = omega (arith, ints, before-rest a d r some e)

down-above : (a d r : ℕ) → 0 < d → suc a % d ≡ r → negsuc (a / d) ≡ floor_from (is_above (pos r)) (neg_ℤ (pos (suc a / d)))
down-above a d zero some e = omega (arith, ints, before-exact a d some e)
down-above a d (suc r) some e = omega (arith, ints, before-rest a d r some e)

not-above : (r : ℕ) (q : ℤ) → q ≡ floor_from (is_above (neg_ℤ (pos r))) q
not-above zero q = refl
not-above (suc r) q = refl

zero-down : (d q r : ℕ) → 0 < d → 0 / d ≡ q → 0 % d ≡ r → pos q ≡ floor_from (is_above (pos r)) (neg_ℤ (pos q))
zero-down d q r some e f =
    let z : 0 / d ≤ 0 = div-le_self 0 d in
    let k : 0 / d * d + 0 % d ≡ 0 = div-add-mod' 0 d in
    let a : q ≡ 0 = omega (arith, e, z) in
    let b : r ≡ 0 = omega (arith, k, f) in
    rw (a, b) refl

-- it is one less where a rest lies across 0 from the divisor
pub floor-is : (a b : ℤ) → b ≢ pos 0 → floor_quotient a b ≡ floor_from (across (int_rem a b) b) (int_div a b)
floor-is a (pos zero) h = absurd (h refl)
floor-is (pos a) (pos (suc m)) h = refl
floor-is (negsuc a) (pos (suc m)) h = down a (suc m) (suc a % suc m) (omega arith) refl
floor-is (pos zero) (negsuc m) h = zero-down (suc m) (0 / suc m) (0 % suc m) (omega arith) refl refl
floor-is (pos (suc a)) (negsuc m) h = down-above a (suc m) (suc a % suc m) (omega arith) refl
floor-is (negsuc a) (negsuc m) h = not-above (suc a % suc m) (pos (suc a / suc m))

leaves : (a b q r : ℤ) (c : Bool) → q *ℤ b +ℤ r ≡ a → a -ℤ b *ℤ floor_from c q ≡ modulus_from c r b
leaves a b q r true e =
    let s : b *ℤ (q -ℤ pos 1) ≡ (q -ℤ pos 1) *ℤ b = *ℤ_comm b (q -ℤ pos 1) in
    let t : (q -ℤ pos 1) *ℤ b ≡ q *ℤ b +ℤ neg_ℤ (pos 1) *ℤ b = distrib q (neg_ℤ (pos 1)) b in
    omega (arith, ints, e, s, t, neg_mul (pos 1) b)
leaves a b q r false e = omega (arith, ints, e, *ℤ_comm b q)

-- and the modulus is then the rest and the divisor
pub modulus-is : (a b : ℤ) → b ≢ pos 0 → modulus a b ≡ modulus_from (across (int_rem a b) b) (int_rem a b) b
modulus-is a b h =
    ap (λ (q : ℤ). a -ℤ b *ℤ q) (floor-is a b h) ∙ leaves a b (int_div a b) (int_rem a b) (across (int_rem a b) b) (quot-rem a b)

from-above : (least greatest : ℤ) (a r : ℕ) → r ≤ a → pos a ≤ℤ greatest → least ≤ℤ pos 0 → (least ≤ℤ pos r) × (pos r ≤ℤ greatest)
from-above least greatest a r h high low = (omega (arith, ints), omega (arith, ints))

from-below : (least greatest : ℤ) (a r : ℕ) → r ≤ suc a → least ≤ℤ negsuc a → pos 0 ≤ℤ greatest → (least ≤ℤ neg_ℤ (pos r)) × (neg_ℤ (pos r) ≤ℤ greatest)
from-below least greatest a r h low high = (omega (arith, ints), omega (arith, ints))

-- a remainder lies between 0 and the number
rem-within : (least greatest a b : ℤ) → least ≤ℤ a → a ≤ℤ greatest → least ≤ℤ pos 0 → pos 0 ≤ℤ greatest → (least ≤ℤ int_rem a b) × (int_rem a b ≤ℤ greatest)
rem-within least greatest (pos a) (pos b) low high zl zh = from-above least greatest a (a % b) (mod-le a b) high zl
rem-within least greatest (pos a) (negsuc b) low high zl zh =
    from-above least greatest a (a % suc b) (mod-le a (suc b)) high zl
rem-within least greatest (negsuc a) (pos b) low high zl zh =
    from-below least greatest a (suc a % b) (mod-le (suc a) b) low zh
rem-within least greatest (negsuc a) (negsuc b) low high zl zh =
    from-below least greatest a (suc a % suc b) (mod-le (suc a) (suc b)) low zh

rest-of : (a b q r : ℤ) → q *ℤ b +ℤ r ≡ a → a -ℤ q *ℤ b ≡ r
rest-of a b q r e = omega (arith, ints, e)

-- a number of the type that is a is a, wrapped
pub within-is : (least greatest : ℤ) (width : ℕ) → HasAllOf least greatest width → (n a : ℤ) → least ≤ℤ n → n ≤ℤ greatest → n ≡ a → n ≡ wrapped least width a
within-is least greatest width all n a low high e =
    sym (wrapped-within least greatest width all n low high) ∙ ap (wrapped least width) e

module _ (least greatest : ℤ) (width : ℕ) (all : HasAllOf least greatest width) (a b : ℤ) (some : b ≢ pos 0) where
  truncated : or_zero (truncated_division a b) ≡ int_div a b
  truncated = ap or_zero (unless_zero-is truncated_quotient a b some)

  -- what the code computes of a wrapped quotient is the remainder
  pub remainder-is : (q p r : ℤ) → least ≤ℤ a → a ≤ℤ greatest → least ≤ℤ pos 0 → pos 0 ≤ℤ greatest
      → q ≡ wrapped least width (or_zero (truncated_division a b)) → p ≡ wrapped least width (q *ℤ b) → r ≡ wrapped least width (a -ℤ p)
      → (r ≡ int_rem a b) × (r ≡ wrapped least width r)
  remainder-is q p r low high zl zh eq ep er =
      let w = rem-within least greatest a b low high zl zh in
      let product : p ≡ wrapped least width (int_div a b *ℤ b) =
      ep ∙ ap (λ (z : ℤ). wrapped least width (z *ℤ b)) (eq ∙ ap (wrapped least width) truncated) ∙ wrapped-mul_left least width (int_div a b) b in
      let rest : r ≡ wrapped least width (int_rem a b) =
      er ∙ ap (λ (z : ℤ). wrapped least width (a -ℤ z)) product ∙ wrapped-sub_right least width a (int_div a b *ℤ b)
      ∙ ap (wrapped least width) (rest-of a b (int_div a b) (int_rem a b) (quot-rem a b)) in
      let is : r ≡ int_rem a b = rest ∙ wrapped-within least greatest width all (int_rem a b) w.0 w.1 in
      (is, rest ∙ ap (wrapped least width) (sym is))

  pub floor-across : (q one : ℤ) → across (int_rem a b) b ≡ true → one ≡ pos 1 → q ≡ wrapped least width (or_zero (truncated_division a b))
      → wrapped least width (q -ℤ one) ≡ wrapped least width (or_zero (floor_division a b))
  floor-across q one c eo eq =
      ap (λ (z : ℤ). wrapped least width (q -ℤ z)) eo
      ∙ ap (λ (z : ℤ). wrapped least width (z -ℤ pos 1)) (eq ∙ ap (wrapped least width) truncated)
      ∙ wrapped-add least width (int_div a b) (neg_ℤ (pos 1))
      ∙ ap (wrapped least width) (sym (ap or_zero (unless_zero-is floor_quotient a b some) ∙ floor-is a b some ∙ ap (λ (k : Bool). floor_from k (int_div a b)) c))

  pub floor-same : (q : ℤ) → across (int_rem a b) b ≡ false → q ≡ wrapped least width (or_zero (truncated_division a b))
      → q ≡ wrapped least width (or_zero (floor_division a b))
  floor-same q c eq =
      eq ∙ ap (wrapped least width) truncated
      ∙ ap (wrapped least width) (sym (ap or_zero (unless_zero-is floor_quotient a b some) ∙ floor-is a b some ∙ ap (λ (k : Bool). floor_from k (int_div a b)) c))

  pub modulus-across : (r : ℤ) → across (int_rem a b) b ≡ true → r ≡ int_rem a b
      → wrapped least width (r +ℤ b) ≡ wrapped least width (or_zero (modulo a b))
  modulus-across r c e =
      ap (λ (z : ℤ). wrapped least width (z +ℤ b)) e
      ∙ ap (wrapped least width) (sym (ap or_zero (unless_zero-is modulus a b some) ∙ modulus-is a b some ∙ ap (λ (k : Bool). modulus_from k (int_rem a b) b) c))

  pub modulus-same : (r : ℤ) → across (int_rem a b) b ≡ false → r ≡ int_rem a b → r ≡ wrapped least width r
      → r ≡ wrapped least width (or_zero (modulo a b))
  modulus-same r c e w =
      w ∙ ap (wrapped least width) e
      ∙ ap (wrapped least width) (sym (ap or_zero (unless_zero-is modulus a b some) ∙ modulus-is a b some ∙ ap (λ (k : Bool). modulus_from k (int_rem a b) b) c))
