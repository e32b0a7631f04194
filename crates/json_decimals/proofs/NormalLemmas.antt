-- The normal form of a decimal is normal, and the same number.
use Rattle.std.proofs.Common.{◌≡◌, ◌≢◌, ℕ, zero, suc, ◌+◌, ◌-◌, ◌*◌, ◌^◌, ◌/◌, ◌%◌, ◌<◌, ◌≤◌, ⊎_elim, ◌↔◌, inl, inr, Bool, true, false, cond, ◌==◌, arith, ap, sym, ◌∙◌, refl}
use Rattle.std.proofs.Math.Nat.{pow-zero, mul-one, pow-suc}
use Rattle.std.proofs.lemmas.Bool.{cases_lt, eqb-true, eqb-false}
use Rattle.std.proofs.lemmas.Nat.{pow-add}
use Rattle.json_decimals.specs.Decimals.{Decimal, AreEqual, IsTrimmed, IsNormal, zero_decimal, tens_in, without_tens, shifted, normal_of}
use Rattle.json_decimals.proofs.EqualLemmas.{no_tens, one_form, passes, turned, by_forms}

-- ---- a number without its tens

-- c is b with t zeros after it, and b does not end in 0
pub record IsStripped (c b t : ℕ) : Type 0 where
  pub is : c ≡ b * 10 ^ t
  pub last : b % 10 ≢ 0

one_more : (c b t : ℕ) → c % 10 ≡ 0 → c / 10 ≡ b * 10 ^ t → c ≡ b * 10 ^ suc t
one_more c b t h e = let parts : c ≡ c / 10 * 10 = omega arith in parts ∙ ap (λ x. x * 10) e ∙ turn b (10 ^ t) ∙ ap (λ x. b * x) (sym (pow-suc 10 t))
  where
    turn : (x y : ℕ) → x * y * 10 ≡ x * (y * 10)
    turn x y = omega arith

strip_step : (more c : ℕ) (b : Bool) → (c % 10 == 0) ≡ b → (c % 10 ≡ 0 → IsStripped (c / 10) (without_tens more (c / 10)) (tens_in more (c / 10)))
    → IsStripped c (cond b (without_tens more (c / 10)) c) (cond b (suc (tens_in more (c / 10))) 0)
strip_step more c true e f = let even = eqb-true _ 0 e in let s = f even in record { is = one_more c _ _ even s.is; last = s.last }
strip_step more c false e f = record { is = sym (ap (λ x. c * x) (pow-zero 10) ∙ mul-one c); last = eqb-false _ 0 e }

pub strip : (most c : ℕ) → c ≤ most → 0 < c → IsStripped c (without_tens most c) (tens_in most c)
strip zero c h p = absurd (omega arith)
strip (suc most) c h p = strip_step most c (c % 10 == 0) refl (λ even. strip most (c / 10) (omega arith) (omega arith))

-- ---- tens on one side

gathered : (b t u k : ℕ) → k ≡ u + t → b * 10 ^ k ≡ (b * 10 ^ t) * 10 ^ u
gathered b t u k h = ap (λ x. b * 10 ^ x) h ∙ ap (λ x. b * x) (pow-add 10 u t) ∙ turn b (10 ^ u) (10 ^ t)
  where
    turn : (x y z : ℕ) → x * (y * z) ≡ x * z * y
    turn x y z = omega arith

pub shifted_trimmed : (a : Decimal) (b t : ℕ) → b % 10 ≢ 0 → IsTrimmed (shifted a b t)
shifted_trimmed a b t h = (h, ⊎_elim (λ (g : a.down < a.up + t). inr (omega arith)) (λ (l : a.up + t ≤ a.down). inl (omega arith)) (cases_lt a.down (a.up + t)))

pub shifted_equal : (a : Decimal) (b t : ℕ) → a.coefficient ≡ b * 10 ^ t → AreEqual (shifted a b t) a
shifted_equal a b t e = record {
  size = gathered b t (a.up + (a.down - (a.up + t))) (a.up + t - a.down + a.down) (omega arith) ∙ ap (λ x. x * 10 ^ (a.up + (a.down - (a.up + t)))) (sym e);
  sign = inr refl;
}

-- ---- the normal form

zero_equal : (a : Decimal) → a.coefficient ≡ 0 → AreEqual zero_decimal a
zero_equal a z = record { size = no_tens (10 ^ (0 + a.down)) (10 ^ (a.up + 0)) ∙ ap (λ x. x * 10 ^ (a.up + 0)) (sym z); sign = inl refl }

pub of_zero : (a : Decimal) → a.coefficient ≡ 0 → normal_of a ≡ zero_decimal
unfolding normal_of
of_zero a z = ap (λ b. cond b zero_decimal (shifted a (without_tens a.coefficient a.coefficient) (tens_in a.coefficient a.coefficient))) (ap (λ c. c == 0) z)

form : (a : Decimal) (b : Bool) → (a.coefficient == 0) ≡ b
    → let n = cond b zero_decimal (shifted a (without_tens a.coefficient a.coefficient) (tens_in a.coefficient a.coefficient)) in IsNormal n × AreEqual n a
form a true e = (inl refl, zero_equal a (eqb-true _ 0 e))
form a false e =
    let some : 0 < a.coefficient = omega (arith, eqb-false _ 0 e) in
    let s = strip a.coefficient a.coefficient (omega arith) some in
    (inr (shifted_trimmed a _ _ s.last), shifted_equal a _ _ s.is)

pub has_form : (a : Decimal) → IsNormal (normal_of a) × AreEqual (normal_of a) a
unfolding normal_of
has_form a = form a (a.coefficient == 0) refl

-- a coefficient that was stripped in another way gives the normal form too
pub is_form : (a : Decimal) (b t : ℕ) → IsStripped a.coefficient b t → normal_of a ≡ shifted a b t
is_form a b t s =
    let h = has_form a in
    one_form (normal_of a) (shifted a b t) h.0 (inr (shifted_trimmed a b t s.last)) (passes (normal_of a) a (shifted a b t) h.1 (turned (shifted a b t) a (shifted_equal a b t s.is)))

pub forms_tell : (a b : Decimal) → AreEqual a b ↔ (normal_of a ≡ normal_of b)
forms_tell a b =
    let h = has_form a in
    let g = has_form b in (
      λ e. one_form (normal_of a) (normal_of b) h.0 g.0 (passes (normal_of a) a (normal_of b) h.1 (passes a b (normal_of b) e (turned (normal_of b) b g.1))),
      λ e. by_forms a b (normal_of a) (normal_of b) h.1 g.1 e,
    )
