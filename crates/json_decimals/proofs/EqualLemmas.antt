-- Equality of decimals, and that a number has one normal form.
use Rattle.std.proofs.Common.{◌≡◌, ◌≢◌, ℕ, suc, ◌+◌, ◌-◌, ◌*◌, ◌^◌, ◌%◌, ◌<◌, ◌⊎◌, ⊎_elim, inl, inr, Bool, arith, ap, sym, ◌∙◌, subst, refl}
use Rattle.std.proofs.Math.Nat.{pow-suc, mul-mod_left, one-le-pow, eq_of_mul-eq-mul_right}
use Rattle.std.proofs.lemmas.Bool.{cases_order}
use Rattle.std.proofs.lemmas.Nat.{pow-add}
use Rattle.json_decimals.specs.Decimals.{Decimal, AreEqual, IsTrimmed, IsNormal}

-- ---- powers of ten

tens_positive : (n : ℕ) → 0 < 10 ^ n
tens_positive n = omega (arith, one-le-pow n 10 (omega arith))

cancel : (a b n : ℕ) → a * 10 ^ n ≡ b * 10 ^ n → a ≡ b
cancel a b n e = eq_of_mul-eq-mul_right (10 ^ n) (tens_positive n) a b e

regroup : (b x y : ℕ) → b * (x * (y * 10)) ≡ (b * y * 10) * x
regroup b x y = omega arith

-- a number with fewer tens beside it ends in 0
ends_in_zero : (a b m n : ℕ) → m < n → a * 10 ^ m ≡ b * 10 ^ n → a % 10 ≡ 0
ends_in_zero a b m n h e =
    let d : ℕ = n - suc m in
    let split : n ≡ m + suc d = omega arith in
    let tens : 10 ^ n ≡ 10 ^ m * (10 ^ d * 10) = ap (λ k. 10 ^ k) split ∙ pow-add 10 m (suc d) ∙ ap (λ x. 10 ^ m * x) (pow-suc 10 d) in
    let more : a * 10 ^ m ≡ (b * 10 ^ d * 10) * 10 ^ m = e ∙ ap (λ x. b * x) tens ∙ regroup b (10 ^ m) (10 ^ d) in
    let same : a ≡ b * 10 ^ d * 10 = cancel a (b * 10 ^ d * 10) m more in
    ap (λ x. x % 10) same ∙ mul-mod_left (b * 10 ^ d) 10

-- two numbers that do not end in 0 are one with as many tens beside them
pub same_parts : (a b m n : ℕ) → a % 10 ≢ 0 → b % 10 ≢ 0 → a * 10 ^ m ≡ b * 10 ^ n → (a ≡ b) × (m ≡ n)
same_parts a b m n p q e =
    ⊎_elim (λ (same : m ≡ n). (cancel a b n (subst (λ (k : ℕ). a * 10 ^ k ≡ b * 10 ^ n) same e), same))
    (⊎_elim (λ (less : m < n). absurd (p (ends_in_zero a b m n less e))) (λ (more : n < m). absurd (q (ends_in_zero b a n m more (sym e))))) (cases_order m n)

pub no_tens : (x y : ℕ) → 0 * x ≡ 0 * y
no_tens x y = omega arith

zero_too : (a b m n : ℕ) → a ≡ 0 → a * 10 ^ m ≡ b * 10 ^ n → b ≡ 0
zero_too a b m n z e = cancel b 0 n (sym e ∙ ap (λ x. x * 10 ^ m) z ∙ no_tens (10 ^ m) (10 ^ n))

pub not_zero : (c : ℕ) → c % 10 ≢ 0 → c ≢ 0
not_zero c h z = h (ap (λ x. x % 10) z)

-- ---- one normal form

abbrev pub made : Bool → ℕ → ℕ → ℕ → Decimal
made negative coefficient up down = record { negative = negative; coefficient = coefficient; up = up; down = down }

pub same_fields : (a b : Decimal) → a.negative ≡ b.negative → a.coefficient ≡ b.coefficient → a.up ≡ b.up → a.down ≡ b.down → a ≡ b
same_fields a b p q r s =
    ap (λ x. made x a.coefficient a.up a.down) p ∙ ap (λ x. made b.negative x a.up a.down) q ∙ ap (λ x. made b.negative b.coefficient x a.down) r ∙ ap (λ x. made b.negative b.coefficient b.up x) s

same_up : (u v d e : ℕ) → (u ≡ 0) ⊎ (d ≡ 0) → (v ≡ 0) ⊎ (e ≡ 0) → u + e ≡ v + d → u ≡ v
same_up u v d e p q h = omega arith

same_down : (u v d e : ℕ) → (u ≡ 0) ⊎ (d ≡ 0) → (v ≡ 0) ⊎ (e ≡ 0) → u + e ≡ v + d → d ≡ e
same_down u v d e p q h = omega arith

trimmed_same : (a b : Decimal) → IsTrimmed a → IsTrimmed b → AreEqual a b → a ≡ b
trimmed_same a b p q e =
    let parts = same_parts a.coefficient b.coefficient (a.up + b.down) (b.up + a.down) p.0 q.0 e.size in
    let sign : a.negative ≡ b.negative = ⊎_elim (λ (z : a.coefficient ≡ 0). absurd (not_zero a.coefficient p.0 z)) (λ (s : a.negative ≡ b.negative). s) e.sign in
    same_fields a b sign parts.0 (same_up a.up b.up a.down b.down p.1 q.1 parts.1) (same_down a.up b.up a.down b.down p.1 q.1 parts.1)

pub one_form : (a b : Decimal) → IsNormal a → IsNormal b → AreEqual a b → a ≡ b
one_form a b (inl p) (inl q) e = p ∙ sym q
one_form a b (inl p) (inr q) e = absurd (not_zero b.coefficient q.0 (zero_too a.coefficient b.coefficient (a.up + b.down) (b.up + a.down) (ap (λ (n : Decimal). n.coefficient) p) e.size))
one_form a b (inr p) (inl q) e = absurd (not_zero a.coefficient p.0 (zero_too b.coefficient a.coefficient (b.up + a.down) (a.up + b.down) (ap (λ (n : Decimal). n.coefficient) q) (sym e.size)))
one_form a b (inr p) (inr q) e = trimmed_same a b p q e

-- ---- equality is an equivalence

itself : (a : Decimal) → AreEqual a a
itself a = record { size = refl; sign = inr refl }

pub turned : (a b : Decimal) → AreEqual a b → AreEqual b a
turned a b e = record {
  size = sym e.size;
  sign = ⊎_elim (λ (z : a.coefficient ≡ 0). inl (zero_too a.coefficient b.coefficient (a.up + b.down) (b.up + a.down) z e.size)) (λ (s : a.negative ≡ b.negative). inr (sym s)) e.sign;
}

swap_last : (c x y z : ℕ) → (c * (x * y)) * z ≡ (c * (x * z)) * y
swap_last c x y z = omega arith

-- the tens of three numbers, each times the other side's
joined : (a b c au ad bu bd cu cd : ℕ) → a * (au * bd) ≡ b * (bu * ad) → b * (bu * cd) ≡ c * (cu * bd) → (a * (au * cd)) * bd ≡ (c * (cu * ad)) * bd
joined a b c au ad bu bd cu cd p q = swap_last a au cd bd ∙ ap (λ x. x * cd) p ∙ swap_last b bu ad cd ∙ ap (λ x. x * ad) q ∙ swap_last c cu bd ad

split : (c m n : ℕ) → c * 10 ^ (m + n) ≡ c * (10 ^ m * 10 ^ n)
split c m n = ap (λ x. c * x) (pow-add 10 m n)

apart : (a b m n k l : ℕ) → a * 10 ^ (m + n) ≡ b * 10 ^ (k + l) → a * (10 ^ m * 10 ^ n) ≡ b * (10 ^ k * 10 ^ l)
apart a b m n k l e = sym (split a m n) ∙ e ∙ split b k l

pub passes : (a b c : Decimal) → AreEqual a b → AreEqual b c → AreEqual a c
passes a b c p q =
    let left = apart a.coefficient b.coefficient a.up b.down b.up a.down p.size in
    let right = apart b.coefficient c.coefficient b.up c.down c.up b.down q.size in
    let both = joined a.coefficient b.coefficient c.coefficient (10 ^ a.up) (10 ^ a.down) (10 ^ b.up) (10 ^ b.down) (10 ^ c.up) (10 ^ c.down) left right in
    let same = cancel (a.coefficient * (10 ^ a.up * 10 ^ c.down)) (c.coefficient * (10 ^ c.up * 10 ^ a.down)) b.down both in
    record {
      size = split a.coefficient a.up c.down ∙ same ∙ sym (split c.coefficient c.up a.down);
      sign = ⊎_elim (λ (z : a.coefficient ≡ 0). inl z)
          (λ (s : a.negative ≡ b.negative). ⊎_elim (λ (z : b.coefficient ≡ 0). inl (zero_too b.coefficient a.coefficient (b.up + a.down) (a.up + b.down) z (sym p.size)))
          (λ (t : b.negative ≡ c.negative). inr (s ∙ t)) q.sign) p.sign;
    }

-- from one decimal to an equal one by way of their normal forms
pub by_forms : (a b m n : Decimal) → AreEqual m a → AreEqual n b → m ≡ n → AreEqual a b
by_forms a b m n p q e = passes a m b (turned m a p) (passes m n b (subst (λ (x : Decimal). AreEqual m x) e (itself m)) q)
