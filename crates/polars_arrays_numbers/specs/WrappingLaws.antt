-- Laws of wrapping: the wrapped number is unique, `wrap` returns it, and a sum may wrap midway.
use Rattle.std.specs.Prelude.{◌≡◌, ◌<◌, ◌≤ℤ◌, ◌<ℤ◌, ◌+◌, ◌-◌, ◌*◌, ◌/◌, ◌%◌, ◌^◌, ◌+ℤ◌, ◌-ℤ◌, ℕ, ℤ}
use Rattle.std.specs.Prelude.{pos, negsuc, unsigned_abs, FitsSigned, refl}
use Rattle.std.specs.Int.{Width, w8, w16, w32, w64, w128, int_rem_euclid}
use Rattle.std.proofs.Common.{ap, sym, subst, ◌∙◌, arith, mod-lt}
use Rattle.std.proofs.lemmas.Int.{ints, int_rem_euclid_is, of_z-to_z}
use Rattle.std.proofs.lemmas.Nat.{div-add-mod', mod-mul-add, pow_pos}
use Rattle.num_traits.specs.Laws.{bit_len, wrap_signed, wrap_unsigned}
use Rattle.num_traits.specs.Ints.{signed-bits_of, signed-bounds, signed-wrap_fits, unsigned-size}
use Rattle.num_traits.specs.Ints.{unsigned-wrap_fits}
use Rattle.polars_arrays_numbers.specs.Wrapping.{Congruent, IsWrapped, wrapped, HasAllOf}
use mir.Val.{bits, hbits}

-- a whole number is a multiple of m and a remainder; the multiple is `above - below`
record Divided (z : ℤ) (m : ℕ) : Type 0 where
  below : ℕ
  above : ℕ
  rest : ℕ
  small : rest < m
  is_rest : int_rem_euclid z (pos m) ≡ pos rest
  sum : z +ℤ pos (below * m) ≡ pos (above * m + rest)

divided : (z : ℤ) (m : ℕ) → 0 < m → Divided z m
divided (pos a) m some = record {
  below = 0;
  above = a / m;
  rest = a % m;
  small = mod-lt a some;
  is_rest = refl;
  sum = omega (arith, ints, div-add-mod' a m);
}
divided (negsuc a) m some =
    let small = mod-lt a some in
    record {
      below = a / m + 1;
      above = 0;
      rest = m - 1 - a % m;
      small = omega (arith, small);
      is_rest = refl;
      sum = omega (arith, ints, small, div-add-mod' a m);
    }

-- the remainder is the only number below m that differs from z by a multiple of m
rest_is : (z : ℤ) (m below above rest : ℕ) → rest < m → z +ℤ pos (below * m)
    ≡ pos (above * m + rest) → int_rem_euclid z (pos m) ≡ pos rest
rest_is z m below above rest small e =
    int_rem_euclid_is z (pos m) m below (above * m + rest) (omega (arith, small)) refl e ∙ ap pos
    (mod-mul-add above m rest small)

gap : (a b : ℤ) → a ≤ℤ b → (d : ℕ) × (b ≡ a +ℤ pos d)
gap (pos m) (pos n) h = (n - m, omega (arith, ints))
gap (pos m) (negsuc n) h = absurd (omega (arith, ints))
gap (negsuc m) (pos n) h = (n + m + 1, omega (arith, ints))
gap (negsuc m) (negsuc n) h = (m - n, omega (arith, ints))

-- the laws below over any modulus m instead of a power of 2
module _ (least : ℤ) (m : ℕ) (some : 0 < m) where
  only : (n x : ℤ) → least ≤ℤ x → x <ℤ (least +ℤ pos m) → Congruent m x n → x
      ≡ least +ℤ int_rem_euclid (n -ℤ least) (pos m)
  only n x low high e =
      let a = divided x m some in
      let b = divided n m some in
      let g = gap least x low in
      let same : pos a.rest ≡ pos b.rest = sym a.is_rest ∙ e ∙ b.is_rest in
      let small : g.0 < m = omega (arith, ints, g.1, high) in
      let sum : (n -ℤ least) +ℤ pos ((b.below + a.above) * m)
      ≡ pos ((b.above + a.below) * m + g.0) =
      omega (arith, ints, a.sum, b.sum, g.1, same) in
      g.1 ∙ ap (λ (r : ℤ). least +ℤ r)
      (sym (rest_is (n -ℤ least) m (b.below + a.above) (b.above + a.below) g.0 small sum))

  within : (n : ℤ) → (least ≤ℤ (least +ℤ int_rem_euclid (n -ℤ least) (pos m)))
      × ((least +ℤ int_rem_euclid (n -ℤ least) (pos m)) <ℤ (least +ℤ pos m))
  within n =
      let d = divided (n -ℤ least) m some in
      rw d.is_rest (omega (arith, ints), omega (arith, ints, d.small))

  congruent : (n : ℤ) → Congruent m (least +ℤ int_rem_euclid (n -ℤ least) (pos m)) n
  congruent n =
      let d = divided (n -ℤ least) m some in
      let t = divided n m some in
      let sum : (least +ℤ pos d.rest) +ℤ pos ((t.below + d.above) * m)
      ≡ pos ((t.above + d.below) * m + t.rest) = omega (arith, ints, d.sum, t.sum) in
      ap (λ (r : ℤ). int_rem_euclid (least +ℤ r) (pos m)) d.is_rest
      ∙ rest_is (least +ℤ pos d.rest) m (t.below + d.above) (t.above + d.below) t.rest t.small sum
      ∙ sym t.is_rest

  add : (a b : ℤ)
      → int_rem_euclid (((least +ℤ int_rem_euclid (a -ℤ least) (pos m)) +ℤ b) -ℤ least) (pos m)
      ≡ int_rem_euclid ((a +ℤ b) -ℤ least) (pos m)
  add a b =
      let d = divided (a -ℤ least) m some in
      let t = divided ((a +ℤ b) -ℤ least) m some in
      let sum : (((least +ℤ pos d.rest) +ℤ b) -ℤ least) +ℤ pos ((t.below + d.above) * m)
      ≡ pos ((t.above + d.below) * m + t.rest) = omega (arith, ints, d.sum, t.sum) in
      ap (λ (r : ℤ). int_rem_euclid (((least +ℤ r) +ℤ b) -ℤ least) (pos m)) d.is_rest
      ∙ rest_is (((least +ℤ pos d.rest) +ℤ b) -ℤ least) m (t.below + d.above) (t.above + d.below)
      t.rest t.small sum
      ∙ sym t.is_rest

-- a number in range that is congruent to n is n wrapped
pub wrapped-only : (least greatest : ℤ) (width : ℕ) → HasAllOf least greatest width → (n x : ℤ)
    → IsWrapped least greatest width n x → x ≡ wrapped least width n
wrapped-only least greatest width all n x is =
    only least (2 ^ width) (pow_pos width) n x is.from_least
    (omega (arith, ints, all, is.to_greatest)) is.congruent

-- n wrapped is in range and congruent to n
pub wrapped-is : (least greatest : ℤ) (width : ℕ) → HasAllOf least greatest width → (n : ℤ)
    → IsWrapped least greatest width n (wrapped least width n)
wrapped-is least greatest width all n =
    let h = within least (2 ^ width) (pow_pos width) n in
    record {
      from_least = h.0;
      to_greatest = omega (arith, ints, all, h.1);
      congruent = congruent least (2 ^ width) (pow_pos width) n;
    }

-- wrapping a summand does not change the wrapped sum
pub wrapped-add : (least : ℤ) (width : ℕ) (a b : ℤ)
    → wrapped least width (wrapped least width a +ℤ b) ≡ wrapped least width (a +ℤ b)
wrapped-add least width a b = ap (λ (r : ℤ). least +ℤ r) (add least (2 ^ width) (pow_pos width) a b)

-- an unsigned type of k bits wraps as defined
pub unsigned_wrapped : (k : ℕ) (n : ℤ) → wrap_unsigned k n ≡ wrapped (pos 0) k n
unsigned_wrapped k n =
    let whole : n -ℤ pos 0 ≡ n = omega (arith, ints) in
    let from_zero : (r : ℤ) → r ≡ pos 0 +ℤ r = λ r. omega (arith, ints) in
    ap (λ (z : ℤ). int_rem_euclid z (pos (2 ^ k))) (sym whole) ∙ from_zero
    (int_rem_euclid (n -ℤ pos 0) (pos (2 ^ k)))

bits_are : (w : Width) → bits w ≡ bit_len w
bits_are w8 = refl
bits_are w16 = refl
bits_are w32 = refl
bits_are w64 = refl
bits_are w128 = refl

twice : (w : Width) → 2 ^ bit_len w ≡ 2 * 2 ^ hbits w
twice w8 = refl
twice w16 = refl
twice w32 = refl
twice w64 = refl
twice w128 = refl

remainder : (k : ℕ) (n : ℤ) → pos (unsigned_abs (wrap_unsigned k n)) ≡ wrap_unsigned k n
remainder k (pos a) = refl
remainder k (negsuc a) = refl

signed_congruent : (w : Width) (n : ℤ) → Congruent (2 ^ bit_len w) (wrap_signed w n) n
signed_congruent w n =
    let r = unsigned_abs (wrap_unsigned (bit_len w) n) in
    let below : r < 2 ^ bit_len w =
    unsigned-size (bit_len w) (wrap_unsigned (bit_len w) n)
    (unsigned-wrap_fits (bit_len w) n) in
    let small : r < 2 ^ bits w = subst (λ (k : ℕ). r < 2 ^ k) (sym (bits_are w)) below in
    sym (signed-bits_of w (wrap_signed w n) (signed-wrap_fits w n)) ∙ ap pos (of_z-to_z w r small) ∙
    remainder (bit_len w) n

signed_range : (w : Width) (x : ℤ) → FitsSigned w x → (negsuc (2 ^ hbits w - 1) ≤ℤ x)
    × (x <ℤ (negsuc (2 ^ hbits w - 1) +ℤ pos (2 ^ bit_len w)))
signed_range w x f =
    let b = (signed-bounds w x).0 f in
    (b.0, omega (arith, ints, b.1, twice w, pow_pos (hbits w)))

-- a signed type of width w wraps as defined
pub signed_wrapped : (w : Width) (n : ℤ) → wrap_signed w n
    ≡ wrapped (negsuc (2 ^ hbits w - 1)) (bit_len w) n
signed_wrapped w n =
    let h = signed_range w (wrap_signed w n) (signed-wrap_fits w n) in
    only (negsuc (2 ^ hbits w - 1)) (2 ^ bit_len w) (pow_pos (bit_len w)) n (wrap_signed w n) h.0
    h.1 (signed_congruent w n)
