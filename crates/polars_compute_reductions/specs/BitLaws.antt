-- Operators on bits are folds of numbers, bit by bit.
use Rattle.std.specs.Prelude.{◌≡◌, ◌<◌, ◌+◌, ◌-◌, ◌/◌, ◌%◌, ◌^◌, ◌+ℤ◌, ◌-ℤ◌, ℕ, zero, suc, ℤ, pos}
use Rattle.std.specs.Prelude.{Bool, true, false, ◌&&◌, ◌||◌, eqb, bit_and, bit_or, bit_xor, min}
use Rattle.std.specs.Prelude.{max, unsigned_abs, refl}
use Rattle.std.proofs.Common.{ap, ap₂, sym, ◌∙◌, arith}
use Rattle.std.proofs.Math.Nat.{mod-eq_of_lt}
use Rattle.std.proofs.lemmas.Bool.Decides.{nat_tests}
use Rattle.std.proofs.lemmas.Int.{ints}
use Rattle.std.proofs.lemmas.Nat.{mod_below, or_lt, pow_pos, xor_lt}
use Rattle.std.proofs.lemmas.Nat.Bits.{bit_at-lt, bit_at-suc, bit_at_and, bit_at_lowest}
use Rattle.std.proofs.lemmas.Nat.Bits.{bit_at_ones, bit_at_or, bit_at_xor, bit_at-zero}
use Rattle.std.specs.Int.{bit_at, int_rem_euclid}
use Rattle.std.specs.Int.Bits.{and_lt}
use Rattle.num_traits.specs.Ints.{unsigned-size, unsigned-wrap_fits}
use Rattle.polars_compute_reductions.specs.Folds.{Folds}
use Rattle.polars_arrays_numbers.specs.Wrapping.{HasAllOf, wrapped}
use Rattle.polars_arrays_numbers.specs.WrappingLaws.{wrapped-is}
use Rattle.polars_arrays_words.specs.Bits.{is_bit}
use Rattle.polars_arrays_words.specs.Logic.{xor}
use Rattle.polars_compute_reductions.specs.Bitwise.{joined_bits, pattern}

-- ---- numbers and their bits

same_digit : (x y : ℕ) → x < 2 → y < 2 → eqb x 1 ≡ eqb y 1 → x ≡ y
same_digit x y p q e = grind (arith, nat_tests)

same_lowest : (x y : ℕ) → is_bit x 0 ≡ is_bit y 0 → x % 2 ≡ y % 2
same_lowest x y e =
    let here : eqb (x % 2) 1
    ≡ eqb (y % 2) 1 = ap (λ d. eqb d 1) (sym (bit_at_lowest x)) ∙ e ∙ ap
    (λ d. eqb d 1) (bit_at_lowest y) in
    same_digit (x % 2) (y % 2) (mod_below x 2 (omega arith)) (mod_below y 2 (omega arith)) here

-- numbers with the same bits are equal
pub same_bits : (width x y : ℕ) → x < 2 ^ width → y < 2 ^ width
    → ((i : ℕ) → i < width → is_bit x i ≡ is_bit y i) → x ≡ y
same_bits zero x y p q same = omega (arith, p, q)
same_bits (suc width) x y p q same =
    let lowest : x % 2 ≡ y % 2 = same_lowest x y (same 0 (omega arith)) in
    let rest : x / 2 ≡ y / 2 = same_bits width (x / 2) (y / 2) (omega (arith, p)) (omega (arith, q))
    (λ i h. ap (λ d. eqb d 1) (sym (bit_at-suc x i)) ∙ same (suc i) (omega arith) ∙ ap
    (λ d. eqb d 1) (bit_at-suc y i)) in
    omega (arith, lowest, rest)

pub pattern-below : (width : ℕ) (n : ℤ) → pattern width n < 2 ^ width
pattern-below width n =
    unsigned-size width (int_rem_euclid n (pos (2 ^ width))) (unsigned-wrap_fits width n)

-- wrapping a number below 2 to the width keeps its bits
pub pattern-wrapped : (least : ℤ) (width m : ℕ) → m < 2 ^ width
    → pattern width (wrapped least width (pos m)) ≡ m
pattern-wrapped least width m below =
    let all : HasAllOf least ((least +ℤ pos (2 ^ width)) -ℤ pos 1) width = omega (arith, ints) in
    ap unsigned_abs
    (wrapped-is least ((least +ℤ pos (2 ^ width)) -ℤ pos 1) width all (pos m)).congruent
    ∙ mod-eq_of_lt below

-- ---- operators

-- an operator on numbers that is an associative and commutative operator on each bit
pub record BitOperator (operator : ℕ → ℕ → ℕ) (bit : Bool → Bool → Bool) (neutral : Bool) :
    Type 0 where
  pub bits : (x y i : ℕ) → is_bit (operator x y) i ≡ bit (is_bit x i) (is_bit y i)
  pub below : (width x y : ℕ) → x < 2 ^ width → y < 2 ^ width → operator x y < 2 ^ width
  pub any_groups : (a b c : Bool) → bit (bit a b) c ≡ bit a (bit b c)
  pub any_order : (a b : Bool) → bit a b ≡ bit b a
  pub with_neutral : (b : Bool) → bit neutral b ≡ b

module _ (operator : ℕ → ℕ → ℕ) (bit : Bool → Bool → Bool) (neutral : Bool)
    (law : BitOperator operator bit neutral) (least : ℤ) (width start : ℕ)
    (small : start < 2 ^ width) (starts : (i : ℕ) → i < width → is_bit start i ≡ neutral) where
  any_groups : (x y z : ℕ) → x < 2 ^ width → y < 2 ^ width → z < 2 ^ width
      → operator (operator x y) z ≡ operator x (operator y z)
  any_groups x y z p q r =
      same_bits width _ _ (law.below width (operator x y) z (law.below width x y p q) r)
      (law.below width x (operator y z) p (law.below width y z q r))
      (λ i h.
      law.bits (operator x y) z i ∙ ap
      (λ b. bit b (is_bit z i)) (law.bits x y i) ∙ law.any_groups (is_bit x i) (is_bit y i)
      (is_bit z i)
      ∙ sym (law.bits x (operator y z) i ∙ ap (bit (is_bit x i)) (law.bits y z i)))

  any_order : (x y : ℕ) → x < 2 ^ width → y < 2 ^ width → operator x y ≡ operator y x
  any_order x y p q =
      same_bits width _ _ (law.below width x y p q) (law.below width y x q p)
      (λ i h. law.bits x y i ∙ law.any_order (is_bit x i) (is_bit y i) ∙ sym (law.bits y x i))

  from_start : (x : ℕ) → x < 2 ^ width → operator start x ≡ x
  from_start x p =
      same_bits width _ _ (law.below width start x small p) p
      (λ i h. law.bits start x i ∙ ap
      (λ b. bit b (is_bit x i)) (starts i h) ∙ law.with_neutral (is_bit x i))

  -- the bits of two joined numbers
  pub joined-pattern : (a b : ℤ) → pattern width (joined_bits operator least width a b)
      ≡ operator (pattern width a) (pattern width b)
  joined-pattern a b =
      pattern-wrapped least width (operator (pattern width a) (pattern width b))
      (law.below width _ _ (pattern-below width a) (pattern-below width b))

  onto_start : (x : ℕ) → x < 2 ^ width
      → joined_bits operator least width (wrapped least width (pos start))
      (wrapped least width (pos x)) ≡ wrapped least width (pos x)
  onto_start x p =
      ap (λ k. wrapped least width (pos k))
      (ap₂ operator (pattern-wrapped least width start small) (pattern-wrapped least width x p) ∙
      from_start x p)

  pub bits_fold : Folds (joined_bits operator least width) (wrapped least width (pos start))
  bits_fold = record {
    any_groups = λ a b c.
        ap (λ k. wrapped least width (pos k))
        (ap (λ k. operator k (pattern width c)) (joined-pattern a b)
        ∙ any_groups (pattern width a) (pattern width b) (pattern width c) (pattern-below width a)
        (pattern-below width b) (pattern-below width c)
        ∙ sym (ap (operator (pattern width a)) (joined-pattern b c)));
    any_order = λ a b. ap
        (λ k. wrapped least width (pos k))
        (any_order (pattern width a) (pattern width b) (pattern-below width a)
        (pattern-below width b));
    any_times = onto_start start small;
  }

-- ---- and, or, exclusive or

test_and : (x y : ℕ) → x < 2 → y < 2 → eqb (min x y) 1 ≡ (eqb x 1 && eqb y 1)
test_and x y p q = grind (arith, nat_tests)

test_or : (x y : ℕ) → x < 2 → y < 2 → eqb (max x y) 1 ≡ (eqb x 1 || eqb y 1)
test_or x y p q = grind (arith, nat_tests)

test_xor : (x y : ℕ) → x < 2 → y < 2 → eqb ((x + y) % 2) 1 ≡ xor (eqb x 1) (eqb y 1)
test_xor x y p q = grind (arith, nat_tests)

and_groups : (a b c : Bool) → ((a && b) && c) ≡ (a && (b && c))
and_groups true b c = refl
and_groups false b c = refl

and_order : (a b : Bool) → (a && b) ≡ (b && a)
and_order true true = refl
and_order true false = refl
and_order false true = refl
and_order false false = refl

or_groups : (a b c : Bool) → ((a || b) || c) ≡ (a || (b || c))
or_groups true b c = refl
or_groups false b c = refl

or_order : (a b : Bool) → (a || b) ≡ (b || a)
or_order true true = refl
or_order true false = refl
or_order false true = refl
or_order false false = refl

xor_groups : (a b c : Bool) → xor (xor a b) c ≡ xor a (xor b c)
xor_groups true true true = refl
xor_groups true true false = refl
xor_groups true false true = refl
xor_groups true false false = refl
xor_groups false true true = refl
xor_groups false true false = refl
xor_groups false false true = refl
xor_groups false false false = refl

xor_order : (a b : Bool) → xor a b ≡ xor b a
xor_order true true = refl
xor_order true false = refl
xor_order false true = refl
xor_order false false = refl

xor_false : (b : Bool) → xor false b ≡ b
xor_false true = refl
xor_false false = refl

pub and_operator : BitOperator bit_and ◌&&◌ true
and_operator = record {
  bits = λ x y i. ap
      (λ d. eqb d 1) (bit_at_and x y i) ∙ test_and (bit_at x i) (bit_at y i) (bit_at-lt x i)
      (bit_at-lt y i);
  below = λ width x y p q. and_lt width x y p q;
  any_groups = and_groups;
  any_order = and_order;
  with_neutral = λ b. refl;
}

pub or_operator : BitOperator bit_or ◌||◌ false
or_operator = record {
  bits = λ x y i. ap
      (λ d. eqb d 1) (bit_at_or x y i) ∙ test_or (bit_at x i) (bit_at y i) (bit_at-lt x i)
      (bit_at-lt y i);
  below = λ width x y p q. or_lt width x y p q;
  any_groups = or_groups;
  any_order = or_order;
  with_neutral = λ b. refl;
}

pub xor_operator : BitOperator bit_xor xor false
xor_operator = record {
  bits = λ x y i. ap
      (λ d. eqb d 1) (bit_at_xor x y i) ∙ test_xor (bit_at x i) (bit_at y i) (bit_at-lt x i)
      (bit_at-lt y i);
  below = λ width x y p q. xor_lt width x y p q;
  any_groups = xor_groups;
  any_order = xor_order;
  with_neutral = xor_false;
}

ones_small : (width : ℕ) → 2 ^ width - 1 < 2 ^ width
ones_small width = omega (arith, pow_pos width)

no_bit : (i : ℕ) → is_bit 0 i ≡ false
no_bit i = ap (λ d. eqb d 1) (bit_at-zero i)

-- each of the operators is a fold of numbers
module _ (least : ℤ) (width : ℕ) where
  pub and_folds :
      Folds (joined_bits bit_and least width) (wrapped least width (pos (2 ^ width - 1)))
  and_folds = bits_fold bit_and ◌&&◌ true and_operator least width (2 ^ width - 1)
      (ones_small width) (λ i h. ap (λ d. eqb d 1) (bit_at_ones width i h))

  pub or_folds : Folds (joined_bits bit_or least width) (wrapped least width (pos 0))
  or_folds = bits_fold bit_or ◌||◌ false or_operator least width 0 (pow_pos width) (λ i h. no_bit i)

  pub xor_folds : Folds (joined_bits bit_xor least width) (wrapped least width (pos 0))
  xor_folds = bits_fold bit_xor xor false xor_operator least width 0 (pow_pos width)
      (λ i h. no_bit i)
