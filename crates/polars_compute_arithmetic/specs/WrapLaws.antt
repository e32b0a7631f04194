-- Wrapping intermediate numbers does not change a wrapped result.
use Rattle.std.specs.Prelude.{◌≡◌, ◌<◌, ◌+◌, ◌-◌, ◌*◌, ◌/◌, ◌%◌, ◌^◌, ◌≤ℤ◌, ◌+ℤ◌, ◌-ℤ◌, ◌*ℤ◌, ℕ, ℤ}
use Rattle.std.specs.Prelude.{suc, pos, negsuc, neg_ℤ, refl}
use Rattle.std.specs.Int.{int_rem_euclid}
use Rattle.std.proofs.Common.{ap, sym, ◌∙◌, arith, mod-lt}
use Rattle.std.proofs.lemmas.Int.{ints, int_rem_euclid_is}
use Rattle.std.proofs.Math.Nat.{mod-eq_of_lt}
use Rattle.std.proofs.lemmas.Nat.{div-add-mod', mod-mul-add, pow_pos}
use borrow.Author.Differences.{up, down, sum_is_lem, neg_is, product_is}
use Rattle.polars_arrays_numbers.specs.Wrapping.{HasAllOf, wrapped}
use Rattle.polars_arrays_numbers.specs.WrappingLaws.{wrapped-only}

pub distrib : (a b c : ℤ) → (a +ℤ b) *ℤ c ≡ a *ℤ c +ℤ b *ℤ c
distrib a b c =
    let u = ap (λ (x : ℕ). x * up c) (sum_is_lem a b) in
    let v = ap (λ (x : ℕ). x * down c) (sum_is_lem a b) in
    omega (arith, ints, u, v)

pub neg_mul : (a b : ℤ) → neg_ℤ a *ℤ b ≡ neg_ℤ (a *ℤ b)
neg_mul a b =
    let n = neg_is a in
    let s = ap (λ (x : ℕ). x * up b) n.0 in
    let t = ap (λ (x : ℕ). x * down b) n.0 in
    let u = ap (λ (x : ℕ). x * up b) n.1 in
    let v = ap (λ (x : ℕ). x * down b) n.1 in
    omega (arith, ints, s, t, u, v)

mul_swap : (a b c : ℤ) → (a *ℤ b) *ℤ c ≡ (a *ℤ c) *ℤ b
mul_swap a b c =
    let n = product_is a b in
    let m = product_is a c in
    let s = ap (λ (x : ℕ). x * up c) n.0 in
    let t = ap (λ (x : ℕ). x * down c) n.0 in
    let u = ap (λ (x : ℕ). x * up c) n.1 in
    let v = ap (λ (x : ℕ). x * down c) n.1 in
    let w = ap (λ (x : ℕ). x * up b) m.0 in
    let x = ap (λ (x : ℕ). x * down b) m.0 in
    let y = ap (λ (x : ℕ). x * up b) m.1 in
    let z = ap (λ (x : ℕ). x * down b) m.1 in
    omega (arith, ints, s, t, u, v, w, x, y, z)

-- the remainder of a multiple and a small rest
rest-is : (t : ℤ) (m rest : ℕ) → rest < m → int_rem_euclid (t *ℤ pos m +ℤ pos rest) (pos m)
    ≡ pos rest
rest-is (pos a) m rest small =
    int_rem_euclid_is (pos a *ℤ pos m +ℤ pos rest) (pos m) m 0 (a * m + rest) (omega (arith, small))
    refl (omega (arith, ints)) ∙ ap pos (mod-mul-add a m rest small)
rest-is (negsuc a) m rest small =
    int_rem_euclid_is (negsuc a *ℤ pos m +ℤ pos rest) (pos m) m (suc a) rest (omega (arith, small))
    refl (omega (arith, ints)) ∙ ap pos (mod-eq_of_lt small)

-- each whole number is a multiple of m and a small rest, which is its remainder
record Parts (z : ℤ) (m : ℕ) : Type 0 where
  times : ℤ
  rest : ℕ
  small : rest < m
  is_rest : int_rem_euclid z (pos m) ≡ pos rest
  sum : z ≡ times *ℤ pos m +ℤ pos rest

parts : (z : ℤ) (m : ℕ) → 0 < m → Parts z m
parts (pos a) m some = record {
  times = pos (a / m);
  rest = a % m;
  small = mod-lt a some;
  is_rest = refl;
  sum = omega (arith, ints, div-add-mod' a m);
}
parts (negsuc a) m some =
    let small = mod-lt a some in
    record {
      times = negsuc (a / m);
      rest = m - 1 - a % m;
      small = omega (arith, small);
      is_rest = refl;
      sum = omega (arith, ints, small, div-add-mod' a m);
    }

more_times : (z s t : ℤ) (m rest : ℕ) → z ≡ s *ℤ pos m +ℤ pos rest → z +ℤ t *ℤ pos m
    ≡ (s +ℤ t) *ℤ pos m +ℤ pos rest
more_times z s t m rest e = omega (arith, ints, e, distrib s t (pos m))

-- multiples of m change no remainder
rem-shifted : (z t : ℤ) (m : ℕ) → 0 < m → int_rem_euclid (z +ℤ t *ℤ pos m) (pos m)
    ≡ int_rem_euclid z (pos m)
rem-shifted z t m some =
    let p = parts z m some in
    let e : z +ℤ t *ℤ pos m
    ≡ (p.times +ℤ t) *ℤ pos m +ℤ pos p.rest = more_times z p.times t m p.rest p.sum in
    ap (λ (y : ℤ). int_rem_euclid y (pos m)) e ∙ rest-is (p.times +ℤ t) m p.rest p.small ∙ sym
    p.is_rest

fewer_times : (least n t : ℤ) (m rest : ℕ) → n -ℤ least ≡ t *ℤ pos m +ℤ pos rest → least +ℤ pos rest
    ≡ n +ℤ neg_ℤ t *ℤ pos m
fewer_times least n t m rest e = omega (arith, ints, neg_mul t (pos m))

sub_times : (a b t k : ℤ) → a -ℤ (b +ℤ t *ℤ k) ≡ (a -ℤ b) +ℤ neg_ℤ t *ℤ k
sub_times a b t k = omega (arith, ints, neg_mul t k)

add_times : (a b t k : ℤ) → a +ℤ (b +ℤ t *ℤ k) ≡ (a +ℤ b) +ℤ t *ℤ k
add_times a b t k = omega (arith, ints)

mul_times : (a b t k : ℤ) → (a +ℤ t *ℤ k) *ℤ b ≡ (a *ℤ b) +ℤ (t *ℤ b) *ℤ k
mul_times a b t k = distrib a (t *ℤ k) b ∙ ap (λ (z : ℤ). a *ℤ b +ℤ z) (mul_swap t k b)

module _ (least : ℤ) (width : ℕ) where
  -- numbers that differ by a multiple of 2 to the width wrap to the same number
  pub wrapped-shifted : (n t : ℤ) → wrapped least width (n +ℤ t *ℤ pos (2 ^ width))
      ≡ wrapped least width n
  wrapped-shifted n t =
      let e : (n +ℤ t *ℤ pos (2 ^ width)) -ℤ least
      ≡ (n -ℤ least) +ℤ t *ℤ pos (2 ^ width) = omega (arith, ints) in
      ap (λ (y : ℤ). least +ℤ int_rem_euclid y (pos (2 ^ width))) e
      ∙ ap (λ (r : ℤ). least +ℤ r) (rem-shifted (n -ℤ least) t (2 ^ width) (pow_pos width))

  -- a wrapped number differs from the number by a multiple of 2 to the width
  pub wrapped-differs : (n : ℤ) → (t : ℤ) × (wrapped least width n ≡ n +ℤ t *ℤ pos (2 ^ width))
  wrapped-differs n =
      let p = parts (n -ℤ least) (2 ^ width) (pow_pos width) in (
        neg_ℤ p.times,
        ap
            (λ (r : ℤ). least +ℤ r) p.is_rest ∙ fewer_times least n p.times (2 ^ width) p.rest
            p.sum,
      )

  pub wrapped-sub_right : (a b : ℤ) → wrapped least width (a -ℤ wrapped least width b)
      ≡ wrapped least width (a -ℤ b)
  wrapped-sub_right a b =
      let d = wrapped-differs b in
      let e : a -ℤ wrapped least width b
      ≡ (a -ℤ b) +ℤ neg_ℤ d.0 *ℤ pos (2 ^ width) = ap
      (λ (z : ℤ). a -ℤ z) d.1 ∙ sub_times a b d.0 (pos (2 ^ width)) in
      ap (wrapped least width) e ∙ wrapped-shifted (a -ℤ b) (neg_ℤ d.0)

  pub wrapped-add_right : (a b : ℤ) → wrapped least width (a +ℤ wrapped least width b)
      ≡ wrapped least width (a +ℤ b)
  wrapped-add_right a b =
      let d = wrapped-differs b in
      let e : a +ℤ wrapped least width b
      ≡ (a +ℤ b) +ℤ d.0 *ℤ pos (2 ^ width) = ap
      (λ (z : ℤ). a +ℤ z) d.1 ∙ add_times a b d.0 (pos (2 ^ width)) in
      ap (wrapped least width) e ∙ wrapped-shifted (a +ℤ b) d.0

  pub wrapped-mul_left : (a b : ℤ) → wrapped least width (wrapped least width a *ℤ b)
      ≡ wrapped least width (a *ℤ b)
  wrapped-mul_left a b =
      let d = wrapped-differs a in
      let e : wrapped least width a *ℤ b
      ≡ (a *ℤ b) +ℤ (d.0 *ℤ b) *ℤ pos (2 ^ width) = ap
      (λ (z : ℤ). z *ℤ b) d.1 ∙ mul_times a b d.0 (pos (2 ^ width)) in
      ap (wrapped least width) e ∙ wrapped-shifted (a *ℤ b) (d.0 *ℤ b)

-- wrapping a number of the type does not change it
pub wrapped-within : (least greatest : ℤ) (width : ℕ) → HasAllOf least greatest width → (n : ℤ)
    → least ≤ℤ n → n ≤ℤ greatest → wrapped least width n ≡ n
wrapped-within least greatest width all n low high =
    sym (wrapped-only least greatest width all n n
    (record { from_least = low; to_greatest = high; congruent = refl }))
