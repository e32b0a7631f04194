-- Leaves without nulls are the same where their bits say so.
use Rattle.std.proofs.Common.{◌≡◌, ◌+◌, ◌<◌, ℕ, Bool, true, false, IsTrue, List, length, refl, subst, arith}
use Rattle.polars_arrays_flat.specs.ArrayRows.{is_null}
use Rattle.polars_arrays_flat.specs.Row.{Row}
use Rattle.polars_arrays_flat.specs.Validity.{is_present}
use Rattle.polars_arrays_nested.specs.AnyRows.{row}
use Rattle.polars_arrays_nested.specs.GoodParts.{IsGood}
use Rattle.polars_arrays_nested.specs.Lengths.{len_of}
use Rattle.polars_arrays_nested.specs.Masks.{mask_of}
use Rattle.polars_arrays_nested.specs.declared.any_array.AnyArray.{AnyArray}
use Rattle.polars_compare_nested.specs.Bits.{JoinsBits, JoinsLeafBits, LeafBits, RawBits, SameBits}
use Rattle.polars_compare_nested.specs.FewLeaves.{AreLeavesWithoutNulls}
use Rattle.polars_compare_nested.specs.Windows.{AreWindows}
use Rattle.polars_compare_nested.proofs.LeafSorts.{leaf_bits}
use Rattle.polars_compare_nested.proofs.MaskedRows.{masked_null}

not_false : (p : Bool) → (p ≡ false → ⊥) → IsTrue p
not_false true h = refl
not_false false h = absurd (h refl)

-- a row that is not null is present
present_row : (x : AnyArray) (i : ℕ) → IsGood x → i < len_of x → is_null (row x i) ≡ false → IsTrue (is_present (mask_of x) i)
present_row x i good low there =
    not_false (is_present (mask_of x) i)
    (λ masked. (let gone = rw (masked_null x i good low masked) at there in cc))

-- so that the raw bits of leaves without nulls say which of them are the same
pub whole_same : (agree : Row → Row → Bool) (x y : AnyArray) (a b n : ℕ) (bits : List Bool) → AreWindows x a y b n → AreLeavesWithoutNulls x y → LeafBits agree x a y b n bits → SameBits agree x a y b n bits
whole_same agree x y a b n bits windows whole h =
    let raw : RawBits agree x a y b n bits = leaf_bits agree x y a b n bits whole.leaves windows.one_type windows.left_in windows.right_in h in
    record {
      size = h.size;
      at_each = λ i low.
          let here : a + i < len_of x = omega (arith, low, windows.left_in) in
          let there : b + i < len_of y = omega (arith, low, windows.right_in) in
          raw.at_present i low (present_row x (a + i) windows.left_good here (whole.left_there (a + i) here), present_row y (b + i) windows.right_good there (whole.right_there (b + i) there));
    }

-- and bits that are joined with the raw bits of such leaves are joined with those that say which of them are the same
pub whole_joined :
    (agree : Row → Row → Bool) (x y : AnyArray) (a b n : ℕ) (old new : List Bool) → AreWindows x a y b n → AreLeavesWithoutNulls x y → length old ≡ n
    → JoinsLeafBits agree x a y b old new → JoinsBits (SameBits agree x a y b n) old new
whole_joined agree x y a b n old new windows whole long h = record {
  same = h.same;
  told = whole_same agree x y a b n h.same windows whole (subst (λ (k : ℕ). LeafBits agree x a y b k h.same) long h.told);
  joined = h.joined;
}
