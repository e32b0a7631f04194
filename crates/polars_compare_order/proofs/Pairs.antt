-- Byte strings that are tested pair by pair are in order where the test says so.
use Rattle.std.proofs.Common.{◌≡◌, ◌<◌, ◌+◌, ◌∙◌, ℕ, Bool, false, List, [], Option, length, sym, ap₂, subst, arith, slice_index_or}
use Rattle.std.proofs.lemmas.List.{get_or-map, length-map}
use Rattle.polars_arrays_flat.specs.Row.{Row, Null, Bytes}
use Rattle.polars_arrays_flat.specs.StoredRows.{row, byte_slots}
use Rattle.polars_compare_leaves.specs.Order.{RawOrder}
use Rattle.polars_compare_leaves.specs.Pairs.{ComparesPairs}

from-zero : (i : ℕ) → 0 + i ≡ i
from-zero i = omega arith

-- the stored row at one place
slot-at : (xs : List (List ℕ)) (i : ℕ) → i < length xs → row (byte_slots xs) i ≡ Bytes (slice_index_or xs i [])
slot-at xs i lt = get_or-map Bytes xs i [] Null lt

pub ordered-pairs :
    (test : Row → Row → Bool) (l r : Option (List Bool)) (xs ys : List (List ℕ)) (n : ℕ) (bits : List Bool) → n ≡ length xs
    → length (byte_slots ys) ≡ length (byte_slots xs) → ComparesPairs test xs ys 0 0 n bits → RawOrder test l r (byte_slots xs) (byte_slots ys) bits
ordered-pairs test l r xs ys n bits all e pairs = record {
  size = pairs.size ∙ all ∙ sym (length-map xs Bytes);
  at_present = λ i h p q.
      let below : i < length xs = omega (arith, h, length-map xs Bytes) in
      let below_ys : i < length ys = omega (arith, h, e, length-map ys Bytes) in
      let at : slice_index_or bits i false ≡ test (Bytes (slice_index_or xs i [])) (Bytes (slice_index_or ys i [])) = subst (λ k. slice_index_or bits i false ≡ test (Bytes (slice_index_or xs k [])) (Bytes (slice_index_or ys k []))) (from-zero i) (pairs.at_each i (omega (arith, all, below))) in
      at ∙ sym (ap₂ test (slot-at xs i below) (slot-at ys i below_ys));
}
