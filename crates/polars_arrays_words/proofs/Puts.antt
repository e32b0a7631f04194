-- Words that are put together from the truth values of parts.
use Rattle.std.proofs.Common.{◌≡◌, ℕ, ◌+◌, ◌-◌, ◌*◌, ◌%◌, ◌^◌, ◌<◌, ◌≤◌, Bool, true, false, eqb, ◌||◌, List, get_or, refl, sym, ap, ap₂, ◌∙◌, arith, bit_or}
use Rattle.std.proofs.Math.Nat.{add-zero}
use Rattle.std.proofs.lemmas.Bool.{cases_lt}
use Rattle.std.proofs.lemmas.Nat.{pow_pos}
use Rattle.std.proofs.lemmas.Nat.Bits.{bit_at_cat_low, bit_at_cat_high, bit_at-zero, bit_at_above}
use Rattle.std.specs.Int.{bit_at}
use mir.Val.{bool_byte}
use mathlib.Core.Logic.{⊎_elim}
use Rattle.polars_arrays_words.specs.Bits.{is_bit}
use Rattle.polars_arrays_words.specs.Packing.{IsPacked}
use Rattle.polars_arrays_words.proofs.OperatorBits.{is_bit_or}
use Rattle.polars_arrays_words.proofs.SingleBits.{bit_at-mod}

or-false : (b : Bool) → (b || false) ≡ b
or-false true = refl
or-false false = refl

-- `word | (more << by)` below bit `by`, and from it on
pub is_bit-put_below : (word more by i : ℕ) → i < by → by < 64 → is_bit (bit_or word (more * 2 ^ by % 2 ^ 64)) i ≡ is_bit word i
is_bit-put_below word more by i lt fits =
    is_bit_or word (more * 2 ^ by % 2 ^ 64) i
    ∙ ap
    (λ n. is_bit word i || eqb n 1)
    (bit_at-mod (more * 2 ^ by) 64 i (omega arith) ∙ ap (λ n. bit_at n i) (sym (add-zero (more * 2 ^ by))) ∙ bit_at_cat_low more by 0 i lt ∙ bit_at-zero i)
    ∙ or-false (is_bit word i)

pub is_bit-put_above : (word more by i : ℕ) → by < 64 → i < 64 - by → is_bit (bit_or word (more * 2 ^ by % 2 ^ 64)) (by + i) ≡ (is_bit word (by + i) || is_bit more i)
is_bit-put_above word more by i fits lt =
    let place : by + i - by ≡ i = omega arith in
    is_bit_or word (more * 2 ^ by % 2 ^ 64) (by + i)
    ∙ ap
    (λ n. is_bit word (by + i) || eqb n 1)
    (bit_at-mod (more * 2 ^ by) 64 (by + i) (omega arith)
    ∙ ap (λ n. bit_at n (by + i)) (sym (add-zero (more * 2 ^ by)))
    ∙ bit_at_cat_high more by 0 (by + i) (pow_pos by) (omega arith)
    ∙ ap (bit_at more) place)

bit_of-one : (b : Bool) → is_bit (bool_byte b) 0 ≡ b
bit_of-one true = refl
bit_of-one false = refl

one_below : (b : Bool) → bool_byte b < 2
one_below true = omega arith
one_below false = omega arith

-- the word of one truth value
pub packed-one : (b : Bool) (values : List Bool) (at : ℕ) → b ≡ get_or values at false → IsPacked (bool_byte b) values at 1
packed-one b values at e = record {
  bits = λ i lt.
      let first : 0 ≡ i = omega arith in
      let place : at ≡ at + i = omega arith in
      ap (is_bit (bool_byte b)) (sym first) ∙ bit_of-one b ∙ e ∙ ap (λ p. get_or values p false) place;
  rest = λ i past lt. ap (λ n. eqb n 1) (bit_at_above (bool_byte b) 1 i (one_below b) past);
}

or-same : (b : Bool) → (b || b) ≡ b
or-same true = refl
or-same false = refl

-- the word of the first `done` truth values, into which that of n from place `count` on was put, some of which may be among them
pub packed-over :
    (word more result : ℕ) (values : List Bool) (at count done n : ℕ) → count < 64 → count ≤ done → done ≤ count + n → count + n ≤ 64 →
    ((i : ℕ) → i < count → is_bit result i ≡ is_bit word i) →
    ((i : ℕ) → i < 64 - count → is_bit result (count + i) ≡ (is_bit word (count + i) || is_bit more i)) →
    IsPacked word values at done → IsPacked more values (at + count) n → IsPacked result values at (count + n)
packed-over word more result values at count done n some over reach few below above first next = record {
  bits = λ i lt.
      ⊎_elim
      (λ lower. below i lower ∙ first.bits i (omega arith))
      (λ past.
      let place : i ≡ count + (i - count) = omega arith in
      let there : at + count + (i - count) ≡ at + i = omega arith in
      let told : is_bit more (i - count) ≡ get_or values (at + i) false = next.bits (i - count) (omega arith) ∙ ap (λ p. get_or values p false) there in
      ap (is_bit result) place
      ∙ above (i - count) (omega arith)
      ∙ ⊎_elim
      (λ known. ap₂ (λ a b. a || b) (ap (is_bit word) (sym place) ∙ first.bits i known) told ∙ or-same (get_or values (at + i) false))
      (λ new. ap₂ (λ a b. a || b) (first.rest (count + (i - count)) (omega arith) (omega arith)) told)
      (cases_lt i done))
      (cases_lt i count);
  rest = λ i past lt.
      let place : i ≡ count + (i - count) = omega arith in
      ap (is_bit result) place
      ∙ above (i - count) (omega arith)
      ∙ ap₂ (λ a b. a || b) (first.rest (count + (i - count)) (omega arith) (omega arith)) (next.rest (i - count) (omega arith) (omega arith));
}

-- the same where those n are the next ones
pub packed-put :
    (word more result : ℕ) (values : List Bool) (at count n : ℕ) → count < 64 → count + n ≤ 64 →
    ((i : ℕ) → i < count → is_bit result i ≡ is_bit word i) →
    ((i : ℕ) → i < 64 - count → is_bit result (count + i) ≡ (is_bit word (count + i) || is_bit more i)) →
    IsPacked word values at count → IsPacked more values (at + count) n → IsPacked result values at (count + n)
packed-put word more result values at count n some few below above first next =
    packed-over word more result values at count count n some (omega arith) (omega arith) few below above first next
