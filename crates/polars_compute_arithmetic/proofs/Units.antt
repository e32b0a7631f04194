-- Quotients by 1 and by -1.
use Rattle.std.proofs.Common.{◌≡◌, ◌≢◌, ◌∙◌, ◌/◌, ◌%◌, ◌≤◌, ◌<◌, ℕ, zero, suc, refl, sym, ap, arith}
use Rattle.std.specs.Prelude.{ℤ, pos, negsuc, neg_ℤ, ◌-ℤ◌, ◌*ℤ◌, unsigned_abs, Some}
use Rattle.std.proofs.lemmas.Int.{ints}
use Rattle.std.proofs.lemmas.Nat.{div-add-mod'}
use Rattle.std.proofs.Common.{mod-lt}
use Rattle.polars_compute_arithmetic.proofs.Rounding.{unless_zero-is}
use Rattle.polars_compute_arithmetic.specs.Operations.{floor_division, modulo, or_zero, product_of, truncated_division}
use Rattle.polars_compute_arithmetic.specs.Quotients.{floor_by, floor_quotient, modulus, truncated_quotient}

by-one : (a : ℕ) → a / 1 ≡ a
by-one a = let k = div-add-mod' a 1 in let m : a % 1 < 1 = mod-lt a (omega arith) in omega arith

floor-one : (a : ℤ) → floor_by a 1 ≡ a
floor-one (pos a) = ap pos (by-one a)
floor-one (negsuc a) = ap negsuc (by-one a)

unit-floor : (a b : ℤ) → (2 ≤ unsigned_abs b → ⊥) → b ≢ pos 0 → a *ℤ b ≡ floor_quotient a b
unit-floor a (pos zero) few some = absurd (some refl)
unit-floor a (pos (suc zero)) few some = omega (arith, ints, floor-one a)
unit-floor a (pos (suc (suc n))) few some = absurd (few (omega arith))
unit-floor a (negsuc zero) few some = omega (arith, ints, floor-one (neg_ℤ a))
unit-floor a (negsuc (suc n)) few some = absurd (few (omega arith))

unit-truncated : (a b : ℤ) → (2 ≤ unsigned_abs b → ⊥) → b ≢ pos 0 → a *ℤ b ≡ truncated_quotient a b
unit-truncated a (pos zero) few some = absurd (some refl)
unit-truncated (pos a) (pos (suc zero)) few some = omega (arith, ints, by-one a)
unit-truncated (negsuc a) (pos (suc zero)) few some = omega (arith, ints, by-one (suc a))
unit-truncated a (pos (suc (suc n))) few some = absurd (few (omega arith))
unit-truncated (pos a) (negsuc zero) few some = omega (arith, ints, by-one a)
unit-truncated (negsuc a) (negsuc zero) few some = omega (arith, ints, by-one (suc a))
unit-truncated a (negsuc (suc n)) few some = absurd (few (omega arith))

module _ (b : ℤ) (few : 2 ≤ unsigned_abs b → ⊥) (some : b ≢ pos 0) where
  pub unit-floor_division : (a : ℤ) → product_of a b ≡ floor_division a b
  unit-floor_division a = ap Some (unit-floor a b few some) ∙ sym (unless_zero-is floor_quotient a b some)

  pub unit-truncated_division : (a : ℤ) → product_of a b ≡ truncated_division a b
  unit-truncated_division a = ap Some (unit-truncated a b few some) ∙ sym (unless_zero-is truncated_quotient a b some)

  unit-modulus : (a : ℤ) → modulus a b ≡ pos 0
  unit-modulus a = ap (λ (q : ℤ). a -ℤ b *ℤ q) (sym (unit-floor a b few some)) ∙ left a b few some
    where
      left : (a b : ℤ) → (2 ≤ unsigned_abs b → ⊥) → b ≢ pos 0 → a -ℤ b *ℤ (a *ℤ b) ≡ pos 0
      left a (pos zero) few some = absurd (some refl)
      left (pos a) (pos (suc zero)) few some = omega (arith, ints)
      left (negsuc a) (pos (suc zero)) few some = omega (arith, ints)
      left a (pos (suc (suc n))) few some = absurd (few (omega arith))
      left (pos zero) (negsuc zero) few some = refl
      left (pos (suc a)) (negsuc zero) few some = omega (arith, ints)
      left (negsuc a) (negsuc zero) few some = omega (arith, ints)
      left a (negsuc (suc n)) few some = absurd (few (omega arith))

  pub unit-modulo : (a : ℤ) → pos 0 ≡ or_zero (modulo a b)
  unit-modulo a = sym (ap or_zero (unless_zero-is modulus a b some) ∙ unit-modulus a)
