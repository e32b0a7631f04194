-- Byte strings that are tested pair by pair are raw equality.
use Rattle.std.proofs.Common.{◌≡◌, ◌<◌, ◌↔◌, ◌∙◌, ◌+◌, ℕ, Bool, true, false, List, [], Option, length, sym, subst, arith, slice_index_or}
use Rattle.std.specs.Bool.{⊤}
use Rattle.std.proofs.lemmas.List.{get_or-map, length-map}
use Rattle.polars_arrays_flat.specs.Row.{Row, Null, Bytes}
use Rattle.polars_arrays_flat.specs.StoredRows.{row, byte_slots}
use Rattle.polars_compare_leaves.specs.Equality.{RawEquality}
use Rattle.polars_compare_leaves.specs.Sameness.{same_row, other_row}
use Rattle.polars_compare_leaves.specs.Pairs.{ComparesPairs}
use Rattle.polars_compare_equality.proofs.Raw.{same-told, other-told}

from-zero : (i : ℕ) → 0 + i ≡ i
from-zero i = omega arith

-- the stored row at one place
slot-at : (xs : List (List ℕ)) (i : ℕ) → i < length xs → row (byte_slots xs) i ≡ Bytes (slice_index_or xs i [])
slot-at xs i lt = get_or-map Bytes xs i [] Null lt

module _ (told : Bool) (test : Row → Row → Bool) (law : (x y : Row) → (test x y ≡ told) ↔ (x ≡ y)) where
  from-pairs :
      (l r : Option (List Bool)) (xs ys : List (List ℕ)) (n : ℕ) (bits : List Bool) → n ≡ length xs → length xs ≡ length ys
      → ComparesPairs test xs ys 0 0 n bits → RawEquality told ⊤ l r (byte_slots xs) (byte_slots ys) bits
  from-pairs l r xs ys n bits all e pairs = record {
    size = pairs.size ∙ all ∙ sym (length-map xs Bytes);
    at_present = λ i h p q.
        let below : i < length xs = omega (arith, h, length-map xs Bytes) in
        let left : row (byte_slots xs) i ≡ Bytes (slice_index_or xs i []) = slot-at xs i below in
        let right : row (byte_slots ys) i ≡ Bytes (slice_index_or ys i []) = slot-at ys i (omega (arith, e, below)) in
        let at : slice_index_or bits i false ≡ test (Bytes (slice_index_or xs i [])) (Bytes (slice_index_or ys i [])) = subst (λ k. slice_index_or bits i false ≡ test (Bytes (slice_index_or xs k [])) (Bytes (slice_index_or ys k []))) (from-zero i) (pairs.at_each i (omega (arith, all, below))) in
        let k = law (Bytes (slice_index_or xs i [])) (Bytes (slice_index_or ys i [])) in
        ((λ t. (tt, left ∙ k.0 (sym at ∙ t) ∙ sym right)), (λ s. at ∙ k.1 (sym left ∙ s.1 ∙ right)));
  }

pub equal-pairs :
    (l r : Option (List Bool)) (xs ys : List (List ℕ)) (n : ℕ) (bits : List Bool) → n ≡ length xs → length xs ≡ length ys
    → ComparesPairs same_row xs ys 0 0 n bits → RawEquality true ⊤ l r (byte_slots xs) (byte_slots ys) bits
equal-pairs = from-pairs true same_row same-told

pub unequal-pairs :
    (l r : Option (List Bool)) (xs ys : List (List ℕ)) (n : ℕ) (bits : List Bool) → n ≡ length xs → length xs ≡ length ys
    → ComparesPairs other_row xs ys 0 0 n bits → RawEquality false ⊤ l r (byte_slots xs) (byte_slots ys) bits
unequal-pairs = from-pairs false other_row other-told
