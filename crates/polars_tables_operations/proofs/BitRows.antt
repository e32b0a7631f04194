-- The number that bits write.
use Rattle.std.proofs.Common.{◌≡◌, ◌<◌, ◌≤◌, ◌+◌, ◌*◌, ◌/◌, ◌%◌, ◌^◌, ◌∙◌, ℕ, zero, suc, Bool, true, false, cond, eqb, List, [], ◌∷◌, length, map, refl, sym, ap, ap₂, arith}
use Rattle.std.specs.Prelude.{ℤ, pos, negsuc, unsigned_abs, ◌≤ℤ◌}
use Rattle.std.specs.Int.{FitsUnsignedBits, bit_at, int_rem_euclid}
use Rattle.std.specs.List.{range_with_len}
use Rattle.std.proofs.Math.Nat.{mod-eq_of_lt}
use Rattle.std.proofs.Math.Numerals.{add-one}
use Rattle.std.proofs.lemmas.Bool.Decides.{nat_tests}
use Rattle.std.proofs.lemmas.Nat.{mod_below}
use Rattle.std.proofs.lemmas.Nat.Bits.{bit_at-suc, bit_at_lowest}
use Rattle.num_traits.specs.Ints.{unsigned-size, unsigned-wrap_fits}
use Rattle.polars_arrays_flat.specs.Row.{Row, Int}
use Rattle.polars_arrays_numbers.specs.Wrapping.{IsWrapped, wrapped}
use Rattle.polars_arrays_words.specs.Bits.{first_of, is_bit}
use Rattle.polars_compute_reductions.specs.Bitwise.{number_bits, pattern}
use Rattle.polars_compute_reductions.specs.BitLaws.{pattern-below}
use Rattle.polars_tables_rows.specs.declared.row_type.RowType.{RowType}
use Rattle.polars_tables_rows.specs.Types.{is_boolean, least_in, width_of}
use Rattle.polars_tables_operations.specs.Bits.{bits_row, bits_value}

-- ---- natural numbers

digit : (x : ℕ) → x < 2 → cond (eqb x 1) 1 0 ≡ x
digit zero h = refl
digit (suc zero) h = refl
digit (suc (suc x)) h = absurd (omega arith)

map_shift : (f g : ℕ → Bool) (a n : ℕ) → ((i : ℕ) → f (i + 1) ≡ g i) → map f (range_with_len (a + 1) n) ≡ map g (range_with_len a n)
map_shift f g a zero same = refl
map_shift f g a (suc n) same = ap₂ (λ (b : Bool) (bs : List Bool). b ∷ bs) (same a) (map_shift f g (a + 1) n same)

shifted : (p i : ℕ) → is_bit p (i + 1) ≡ is_bit (p / 2) i
shifted p i = ap (is_bit p) (add-one i) ∙ ap (λ (d : ℕ). eqb d 1) (bit_at-suc p i)

-- a number below 2 to the width is what its bits write
pub bits_value-of : (p w : ℕ) → p < 2 ^ w → bits_value (first_of (is_bit p) w) ≡ p
bits_value-of p zero h = omega (arith, h)
bits_value-of p (suc w) h =
    let rest : bits_value (map (is_bit p) (range_with_len (0 + 1) w)) ≡ p / 2 =
    ap bits_value (map_shift (is_bit p) (is_bit (p / 2)) 0 w (shifted p)) ∙ bits_value-of (p / 2) w (omega (arith, h)) in
    let low : cond (is_bit p 0) 1 0 ≡ p % 2 = ap (λ (d : ℕ). cond (eqb d 1) 1 0) (bit_at_lowest p) ∙ digit (p % 2) (mod_below p 2 (omega arith)) in
    omega (arith, rest, low)

-- ---- numbers of a type

whole : (m : ℕ) (z : ℤ) → FitsUnsignedBits m z → pos (unsigned_abs z) ≡ z
whole m (pos n) f = refl
whole m (negsuc n) f = absurd f

-- a number leaves the same remainder as its bits
same_rest : (width : ℕ) (n : ℤ) → int_rem_euclid n (pos (2 ^ width)) ≡ int_rem_euclid (pos (pattern width n)) (pos (2 ^ width))
same_rest width n =
    sym (whole width (int_rem_euclid n (pos (2 ^ width))) (unsigned-wrap_fits width n))
    ∙ ap (λ (k : ℕ). pos k) (sym (mod-eq_of_lt (pattern-below width n)))

module _ (kind : RowType) (low high n : ℤ) (width : ℕ) (number : is_boolean kind ≡ false) (wide : width_of kind ≡ width) (least : least_in kind ≡ low) (from : low ≤ℤ n) (to : n ≤ℤ high) where
  -- a number of a type of numbers is the one that its bits write
  pub number-row : ((m x : ℤ) → IsWrapped low high width m x → x ≡ wrapped low width m) → bits_row kind (number_bits (width_of kind) n) ≡ Int n
  number-row only =
      let p = pattern width n in
      let is : n ≡ wrapped low width (pos p) = only (pos p) n (record { from_least = from; to_greatest = to; congruent = same_rest width n }) in
      let value : bits_value (number_bits width n) ≡ p = bits_value-of p width (pattern-below width n) in
      rw (number, wide, value, least) (ap Int (sym is))
