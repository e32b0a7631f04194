-- The laws of quotients of whole numbers.
use Rattle.std.proofs.Common.{◌≡◌, ◌≢◌, ◌∙◌, ◌+◌, ◌-◌, ◌%◌, ◌<◌, ◌≤◌, ℕ, zero, suc, refl, sym, ap, subst, arith, mod-lt}
use Rattle.std.specs.Prelude.{ℤ, pos, negsuc, neg_ℤ, ◌+ℤ◌, ◌*ℤ◌, ◌≤ℤ◌, ◌<ℤ◌, int_div, int_rem, unsigned_abs}
use Rattle.std.proofs.lemmas.Int.{ints, by_lt_z, quot-rem}
use Rattle.std.proofs.lemmas.Nat.{div-add-mod'}
use Rattle.std.proofs.Math.IntN.{*ℤ_comm}
use Rattle.std.proofs.Math.Nat.{mod-le}
use Rattle.polars_compute_arithmetic.specs.Quotients.{floor_by, floor_quotient, modulus, truncated_quotient}
use Rattle.polars_compute_arithmetic.specs.WrapLaws.{distrib}
use Rattle.polars_compute.specs.QuotientLaws.{FloorIsGreatest, FloorLeavesModulus, HasSignOf, IsGreatestNotAbove, IsNearestTowardZero, IsRest, ModulusIsRest, TruncatedIsNearest}

-- a product with a number below 0
turned : (q : ℤ) (n : ℕ) → q *ℤ negsuc n ≡ neg_ℤ (q *ℤ pos (suc n))
turned q n = omega (arith, ints)

gap : (q r : ℤ) → q ≤ℤ r → (d : ℕ) × (r ≡ q +ℤ pos d)
gap (pos m) (pos n) h = (n - m, omega (arith, ints))
gap (pos m) (negsuc n) h = absurd (omega (arith, ints))
gap (negsuc m) (pos n) h = (n + m + 1, omega (arith, ints))
gap (negsuc m) (negsuc n) h = (m - n, omega (arith, ints))

-- multiples are in the order of their factors
in-order : (q r : ℤ) (n : ℕ) → q ≤ℤ r → (q *ℤ pos n) ≤ℤ (r *ℤ pos n)
in-order q r n h =
    let d = gap q r h in
    let e = ap (λ (z : ℤ). z *ℤ pos n) d.1 ∙ distrib q (pos d.0) (pos n) in
    omega (arith, ints, e)

-- and at least n apart
apart : (q r : ℤ) (n : ℕ) → q <ℤ r → (q *ℤ pos n +ℤ pos n) ≤ℤ (r *ℤ pos n)
apart q r n h =
    let l : (q +ℤ pos 1) ≤ℤ r = omega (arith, ints, h) in
    omega (arith, ints, in-order (q +ℤ pos 1) r n l, distrib q (pos 1) (pos n))

-- a multiple that is less than n above another one has no greater factor
no-greater : (q r : ℤ) (n : ℕ) → (q *ℤ pos n) <ℤ (r *ℤ pos n +ℤ pos n) → q ≤ℤ r
no-greater q r n h = by_lt_z r q (λ l. absurd (omega (arith, ints, h, apart r q n l))) (λ l. l)

same : (q r : ℤ) → q ≤ℤ r → r ≤ℤ q → q ≡ r
same q r h k = omega (arith, ints, h, k)

-- two multiples of b are at least b's magnitude apart
multiples-apart : (q r b : ℤ) → (q *ℤ b) <ℤ (r *ℤ b)
    → (q *ℤ b +ℤ pos (unsigned_abs b)) ≤ℤ (r *ℤ b)
multiples-apart q r (pos n) h =
    by_lt_z q r (λ l. apart q r n l) (λ l. absurd (omega (arith, ints, h, in-order r q n l)))
multiples-apart q r (negsuc n) h =
    let e = turned q n in
    let f = turned r n in
    by_lt_z r q (λ l. omega (arith, ints, apart r q (suc n) l, e, f))
    (λ l. absurd (omega (arith, ints, h, in-order q r (suc n) l, e, f)))

same-above : (q r : ℤ) (n : ℕ) → q *ℤ pos (suc n) ≡ r *ℤ pos (suc n) → q ≡ r
same-above q r n e =
    let h = no-greater q r (suc n) (omega (arith, ints, e)) in
    same q r h (no-greater r q (suc n) (omega (arith, ints, e)))

-- a multiple has one factor
one-factor : (q r b : ℤ) → b ≢ pos 0 → q *ℤ b ≡ r *ℤ b → q ≡ r
one-factor q r (pos zero) some e = absurd (some refl)
one-factor q r (pos (suc n)) some e = same-above q r n e
one-factor q r (negsuc n) some e =
    same-above q r n (omega (arith, ints, e, turned q n, turned r n))

-- what is left of a number by a divisor above 0
floor-rest : (a : ℤ) (n : ℕ)
    → (t : ℕ) × (t < suc n) × (floor_by a (suc n) *ℤ pos (suc n) +ℤ pos t ≡ a)
floor-rest (pos a) n =
    (a % suc n, mod-lt a (omega arith), omega (arith, ints, div-add-mod' a (suc n)))
floor-rest (negsuc a) n =
    let small : a % suc n < suc n = mod-lt a (omega arith) in
    (n - a % suc n, omega arith, omega (arith, ints, small, div-add-mod' a (suc n)))

greatest-above : (a : ℤ) (n : ℕ) → IsGreatestNotAbove (floor_by a (suc n)) a (pos (suc n))
greatest-above a n =
    let t = floor-rest a n in
    record {
      not_above = omega (arith, ints, t.2);
      greatest = λ r h. no-greater r (floor_by a (suc n)) (suc n) (omega (arith, ints, h, t));
    }

greatest : (a b : ℤ) → b ≢ pos 0 → IsGreatestNotAbove (floor_quotient a b) a b
greatest a (pos zero) some = absurd (some refl)
greatest a (pos (suc n)) some = greatest-above a n
greatest a (negsuc n) some =
    let g = greatest-above (neg_ℤ a) n in
    record {
      not_above = omega (arith, ints, g.not_above, turned (floor_by (neg_ℤ a) (suc n)) n);
      greatest = λ r h. g.greatest r (omega (arith, ints, h, turned r n));
    }

one-greatest : (a b q r : ℤ) → IsGreatestNotAbove q a b → IsGreatestNotAbove r a b → q ≡ r
one-greatest a b q r h k = same q r (k.greatest q h.not_above) (h.greatest r k.not_above)

pub floor-is_greatest : FloorIsGreatest
floor-is_greatest a b q some =
    let g = greatest a b some in
    (λ e. subst (λ (z : ℤ). IsGreatestNotAbove z a b) (sym e) g, λ h. one-greatest a b q _ h g)

-- the remainder toward 0 lies on the dividend's side of 0
rem-of_pos : (x : ℕ) (b : ℤ) → int_rem (pos x) b ≡ pos (x % unsigned_abs b)
rem-of_pos x (pos n) = refl
rem-of_pos x (negsuc n) = refl

rem-of_negsuc : (x : ℕ) (b : ℤ) → int_rem (negsuc x) b ≡ neg_ℤ (pos (suc x % unsigned_abs b))
rem-of_negsuc x (pos n) = refl
rem-of_negsuc x (negsuc n) = refl

some-magnitude : (b : ℤ) → b ≢ pos 0 → 0 < unsigned_abs b
some-magnitude (pos zero) some = absurd (some refl)
some-magnitude (pos (suc n)) some = omega arith
some-magnitude (negsuc n) some = omega arith

nearest-above : (x s : ℕ) (b t : ℤ) → s ≤ x → s < unsigned_abs b → t *ℤ b +ℤ pos s ≡ pos x
    → IsNearestTowardZero t (pos x) b
nearest-above x s b t few small e = record {
  from_zero = (omega (arith, ints, e), omega (arith, ints, e));
  nearest = λ r h. by_lt_z (t *ℤ b) (r *ℤ b)
      (λ l. absurd (omega (arith, ints, e, h, multiples-apart t r b l)))
      (λ l. omega (arith, ints, e, h, l));
}

nearest-below : (x s : ℕ) (b t : ℤ) → s ≤ suc x → s < unsigned_abs b
    → t *ℤ b +ℤ neg_ℤ (pos s) ≡ negsuc x → IsNearestTowardZero t (negsuc x) b
nearest-below x s b t few small e = record {
  from_zero = (omega (arith, ints, e), omega (arith, ints, e));
  nearest = λ r h. by_lt_z (r *ℤ b) (t *ℤ b)
      (λ l. absurd (omega (arith, ints, e, h, multiples-apart r t b l)))
      (λ l. omega (arith, ints, e, h, l));
}

nearest : (a b : ℤ) → b ≢ pos 0 → IsNearestTowardZero (truncated_quotient a b) a b
nearest (pos x) b some =
    let q : ℤ = int_div (pos x) b in
    let e = ap (λ (z : ℤ). q *ℤ b +ℤ z) (sym (rem-of_pos x b)) ∙ quot-rem (pos x) b in
    nearest-above x _ b q (mod-le x (unsigned_abs b)) (mod-lt x (some-magnitude b some)) e
nearest (negsuc x) b some =
    let q : ℤ = int_div (negsuc x) b in
    let e = ap (λ (z : ℤ). q *ℤ b +ℤ z) (sym (rem-of_negsuc x b)) ∙ quot-rem (negsuc x) b in
    nearest-below x _ b q (mod-le (suc x) (unsigned_abs b)) (mod-lt _ (some-magnitude b some)) e

-- multiples from 0 to a that are as far from a are one
one-nearest : (a b q t : ℤ) → b ≢ pos 0 → IsNearestTowardZero q a b → IsNearestTowardZero t a b
    → q ≡ t
one-nearest (pos x) b q t some h k =
    let l = h.nearest t k.from_zero in
    let m = k.nearest q h.from_zero in
    one-factor q t b some (omega (arith, ints, h.from_zero, k.from_zero, l, m))
one-nearest (negsuc x) b q t some h k =
    let l = h.nearest t k.from_zero in
    let m = k.nearest q h.from_zero in
    one-factor q t b some (omega (arith, ints, h.from_zero, k.from_zero, l, m))

pub truncated-is_nearest : TruncatedIsNearest
truncated-is_nearest a b q some =
    let g = nearest a b some in
    (λ e. subst (λ (z : ℤ). IsNearestTowardZero z a b) (sym e) g, λ h. one-nearest a b q _ some h g)

pub floor-leaves_modulus : FloorLeavesModulus
floor-leaves_modulus a b some = omega (arith, ints, *ℤ_comm b (floor_quotient a b))

rest : (a b : ℤ) → b ≢ pos 0 → IsRest (modulus a b) a b
rest a (pos zero) some = absurd (some refl)
rest a (pos (suc n)) some =
    let t = floor-rest a n in
    let e = *ℤ_comm (pos (suc n)) (floor_quotient a (pos (suc n))) in
    record {
      left = (floor_quotient a (pos (suc n)), floor-leaves_modulus a (pos (suc n)) some);
      sign = omega (arith, ints, t, e);
      smaller = omega (arith, ints, t, e);
    }
rest a (negsuc n) some =
    let t = floor-rest (neg_ℤ a) n in
    let q : ℤ = floor_quotient a (negsuc n) in
    let e = *ℤ_comm (negsuc n) q ∙ turned q n in
    record {
      left = (q, floor-leaves_modulus a (negsuc n) some);
      sign = omega (arith, ints, t, e);
      smaller = omega (arith, ints, t, e);
    }

-- two rests on one side of 0 are less than b's magnitude apart
near : (b m l : ℤ) → HasSignOf b m → HasSignOf b l → unsigned_abs m < unsigned_abs b
    → unsigned_abs l < unsigned_abs b → m <ℤ (l +ℤ pos (unsigned_abs b))
near (pos n) m l h k s t = omega (arith, ints, h, k, s, t)
near (negsuc n) m l h k s t = omega (arith, ints, h, k, s, t)

-- so of two rests of a number neither multiple is the lesser
no-lesser : (a b m l i j : ℤ) → i *ℤ b +ℤ m ≡ a → j *ℤ b +ℤ l ≡ a
    → m <ℤ (l +ℤ pos (unsigned_abs b)) → (j *ℤ b) ≤ℤ (i *ℤ b)
no-lesser a b m l i j e f s =
    by_lt_z (i *ℤ b) (j *ℤ b)
    (λ o. absurd (omega (arith, ints, e, f, s, multiples-apart i j b o))) (λ o. o)

one-rest : (a b m l : ℤ) → IsRest m a b → IsRest l a b → m ≡ l
one-rest a b m l h k =
    let s = near b m l h.sign k.sign h.smaller k.smaller in
    let t = near b l m k.sign h.sign k.smaller h.smaller in
    let u = no-lesser a b m l h.left.0 k.left.0 h.left.1 k.left.1 s in
    let v = no-lesser a b l m k.left.0 h.left.0 k.left.1 h.left.1 t in
    omega (arith, ints, h.left.1, k.left.1, u, v)

pub modulus-is_rest : ModulusIsRest
modulus-is_rest a b m some =
    let g = rest a b some in
    (λ e. subst (λ (z : ℤ). IsRest z a b) (sym e) g, λ h. one-rest a b m _ h g)
