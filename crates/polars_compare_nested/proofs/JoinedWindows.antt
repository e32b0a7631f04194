-- Raw bits of two windows that are joined with their validities say which rows are the same.
use Rattle.std.proofs.Common.{◌≡◌, ◌+◌, ◌≤◌, ◌<◌, ℕ, Bool, true, false, IsTrue, List, get_or, refl, ap, sym, ◌∙◌, arith}
use Rattle.std.specs.Prelude.{Option, Some, None}
use Rattle.polars_arrays_flat.specs.ArrayRows.{is_null}
use Rattle.polars_arrays_flat.specs.Row.{Row, Int, Truth, Bytes, Rows, Fields, Entry}
use Rattle.polars_arrays_flat.specs.Row.{Null as Missing}
use Rattle.polars_arrays_flat.specs.Validity.{HasBits, is_present, validity_window}
use Rattle.polars_arrays_nested.specs.AnyRows.{row}
use Rattle.polars_arrays_nested.specs.GoodParts.{IsGood}
use Rattle.polars_arrays_nested.specs.Lengths.{len_of}
use Rattle.polars_arrays_nested.specs.Masks.{mask_of}
use Rattle.polars_arrays_nested.specs.Types.{type_of}
use Rattle.polars_arrays_nested.specs.declared.any_array.AnyArray.{AnyArray}
use Rattle.polars_compare_leaves.specs.Joining.{Joined, joined_bit}
use Rattle.polars_compare_leaves.specs.Sameness.{same}
use Rattle.polars_compare_nested.specs.Bits.{RawBits, SameBits}
use Rattle.polars_compare_nested.proofs.MaskedRows.{masked_null, present_there}
use Rattle.polars_compare_nested.proofs.WindowBits.{get_or-window, length-window}

present-window : (at n : ℕ) (validity : Option (List Bool)) (i : ℕ) → i < n → is_present (validity_window at n validity) i ≡ is_present validity (at + i)
present-window at n None i below = refl
present-window at n (Some bits) i below = get_or-window at n bits i false below

-- a validity of `len` rows has a bit for each row of a window
pub bits-window : (len at n : ℕ) (validity : Option (List Bool)) → HasBits len validity → at + n ≤ len → HasBits n (validity_window at n validity)
bits-window len at n None bits within = tt
bits-window len at n (Some all) bits within = length-window at n all (omega (arith, bits, within))

differs_right : (agree : Row → Row → Bool) (x : Row) → is_null x ≡ false → false ≡ same agree x Missing
differs_right agree Missing h = cc
differs_right agree (Int m) h = refl
differs_right agree (Truth a) h = refl
differs_right agree (Bytes xs) h = refl
differs_right agree (Rows xs) h = refl
differs_right agree (Fields xs) h = refl
differs_right agree (Entry x) h = refl

differs_left : (agree : Row → Row → Bool) (x : Row) → is_null x ≡ false → false ≡ same agree Missing x
differs_left agree Missing h = cc
differs_left agree (Int m) h = refl
differs_left agree (Truth a) h = refl
differs_left agree (Bytes xs) h = refl
differs_left agree (Rows xs) h = refl
differs_left agree (Fields xs) h = refl
differs_left agree (Entry x) h = refl

joined_same : (agree : Row → Row → Bool) (x y : Row) (raw p q : Bool) → (p ≡ false → x ≡ Missing) → (q ≡ false → y ≡ Missing) → (p ≡ true → q ≡ false → is_null x ≡ false) → (q ≡ true → p ≡ false → is_null y ≡ false) → (IsTrue p → IsTrue q → raw ≡ same agree x y) → joined_bit true raw p q ≡ same agree x y
joined_same agree x y raw true true left_null right_null left_there right_there told = told refl refl
joined_same agree x y raw true false left_null right_null left_there right_there told =
    differs_right agree x (left_there refl refl) ∙ ap (λ (r : Row). same agree x r) (sym (right_null refl))
joined_same agree x y raw false true left_null right_null left_there right_there told =
    differs_left agree y (right_there refl refl) ∙ ap (λ (r : Row). same agree r y) (sym (left_null refl))
joined_same agree x y raw false false left_null right_null left_there right_there told =
    rw (left_null refl, right_null refl) refl

pub joined_windows : (agree : Row → Row → Bool) (x y : AnyArray) (a b n : ℕ) (raw bits : List Bool) → IsGood x → IsGood y → type_of x ≡ type_of y → a + n ≤ len_of x → b + n ≤ len_of y → Joined true (validity_window a n (mask_of x)) (validity_window b n (mask_of y)) raw bits → RawBits agree x a y b n raw → SameBits agree x a y b n bits
joined_windows agree x y a b n raw bits good good' e low low' joined told = record {
  size = omega (arith, joined.size, told.size);
  at_each = λ i below.
      rw (joined.at_each i (omega (arith, below, told.size)), present-window a n (mask_of x) i below, present-window b n (mask_of y) i below)
      (joined_same agree (row x (a + i)) (row y (b + i)) (get_or raw i false) (is_present (mask_of x) (a + i)) (is_present (mask_of y) (b + i))
      (masked_null x (a + i) good (omega (arith, low, below))) (masked_null y (b + i) good' (omega (arith, low', below)))
      (λ here there. present_there x y (a + i) (b + i) e good (omega (arith, low, below)) here there)
      (λ there here. present_there y x (b + i) (a + i) (sym e) good' (omega (arith, low', below)) there here)
      (λ here there. told.at_present i below (here, there)));
}

there_present : (present : Bool) (x : Row) → (present ≡ false → x ≡ Missing) → is_null x ≡ false → present ≡ true
there_present true x null there = refl
there_present false x null there = (let missing = ap is_null (null refl) in cc)

-- where no row is null, the raw bits say it of all rows
pub unmasked_windows : (agree : Row → Row → Bool) (x y : AnyArray) (a b n : ℕ) (raw : List Bool) → IsGood x → IsGood y → a + n ≤ len_of x → b + n ≤ len_of y → ((i : ℕ) → i < len_of x → is_null (row x i) ≡ false) → ((i : ℕ) → i < len_of y → is_null (row y i) ≡ false) → RawBits agree x a y b n raw → SameBits agree x a y b n raw
unmasked_windows agree x y a b n raw good good' low low' there there' told = record {
  size = told.size;
  at_each = λ i below.
      let left : a + i < len_of x = omega (arith, low, below) in
      let right : b + i < len_of y = omega (arith, low', below) in
      told.at_present i below (
        there_present (is_present (mask_of x) (a + i)) (row x (a + i)) (masked_null x (a + i) good left) (there (a + i) left),
        there_present (is_present (mask_of y) (b + i)) (row y (b + i)) (masked_null y (b + i) good' right) (there' (b + i) right),
      );
}
