-- Numbers of a type joined bit by bit.
use Rattle.std.proofs.Common.{◌≡◌, ◌<◌, ◌^◌, ◌∙◌, ℕ, Bool, ap, ap₂, subst, sym}
use Rattle.std.specs.Prelude.{ℤ, pos, unsigned_abs}
use Rattle.std.specs.Int.{int_rem_euclid}
use Rattle.polars_arrays_numbers.specs.Wrapping.{wrapped}
use Rattle.polars_compute_reductions.specs.BitLaws.{BitOperator, pattern-below}
use Rattle.polars_compute_reductions.specs.Bitwise.{joined_bits, pattern}

-- the bits of a value are its pattern
pub is_pattern : (width x : ℕ) (a : ℤ) → pos x ≡ int_rem_euclid a (pos (2 ^ width)) → x ≡ pattern width a
is_pattern width x a e = ap unsigned_abs e

module _ {A : Type 0} (value : A → ℤ) (of_bits : ℕ → A) (wrap : ℤ → ℤ) (least : ℤ) (width : ℕ) (of_bits_law : (n : ℕ) → n < 2 ^ width → value (of_bits n) ≡ wrap (pos n)) (wrapped_law : (n : ℤ) → wrap n ≡ wrapped least width n) where
  -- two values joined by their bits
  pub joined-value : (operator : ℕ → ℕ → ℕ) (bit : Bool → Bool → Bool) (neutral : Bool) → BitOperator operator bit neutral → (x y : ℕ) (a b : ℤ) (r : A) → pos x ≡ int_rem_euclid a (pos (2 ^ width)) → pos y ≡ int_rem_euclid b (pos (2 ^ width)) → r ≡ of_bits (operator x y) → value r ≡ joined_bits operator least width a b
  joined-value operator bit neutral law x y a b r e f is =
      let left = is_pattern width x a e in
      let right = is_pattern width y b f in
      let small : operator x y < 2 ^ width = law.below width x y (subst (λ k. k < 2 ^ width) (sym left) (pattern-below width a)) (subst (λ k. k < 2 ^ width) (sym right) (pattern-below width b)) in
      ap value is
      ∙ of_bits_law (operator x y) small
      ∙ wrapped_law (pos (operator x y))
      ∙ ap (λ k. wrapped least width (pos k)) (ap₂ operator left right)

-- and lie below 2 to the width
pub is_small : (width x : ℕ) (a : ℤ) → pos x ≡ int_rem_euclid a (pos (2 ^ width)) → x < 2 ^ width
is_small width x a e = subst (λ k. k < 2 ^ width) (sym (is_pattern width x a e)) (pattern-below width a)
