-- Bits of the rows of arrays that hold arrays are raw equality.
use Rattle.std.proofs.Common.{◌≡◌, ◌<◌, ◌+◌, ◌∙◌, ℕ, Bool, true, false, not, IsTrue, List, Option, None, length, map, replicate, sym, ap, subst, arith, slice_index_or}
use Rattle.std.specs.Bool.{⊤}
use Rattle.std.proofs.lemmas.List.{get_or-map, get_or-replicate, length-map, length-replicate}
use Rattle.std.proofs.lemmas.List.FromFn.{get_or-map-range_with_len, length-map-range_with_len}
use Rattle.polars_arrays_flat.specs.Kind.{Kind, NamedKinds, FixedSizeListKind, StructKind}
use Rattle.polars_arrays_flat.specs.Row.{Row, Null}
use Rattle.polars_arrays_flat.specs.StoredRows.{kept}
use Rattle.polars_arrays_flat.specs.StoredRows.{row as row_at}
use Rattle.polars_arrays_flat.specs.Validity.{is_present}
use Rattle.polars_arrays_nested.specs.AnyRows.{row}
use Rattle.polars_arrays_nested.specs.Masks.{mask_of}
use Rattle.polars_arrays_nested.specs.StoredRows.{listed}
use Rattle.polars_arrays_nested.specs.Types.{type_of}
use Rattle.polars_arrays_nested.specs.declared.any_array.AnyArray.{AnyArray}
use Rattle.polars_compare_leaves.specs.Equality.{RawEquality}
use Rattle.polars_compare_leaves.specs.Sameness.{same, same_leaf}
use Rattle.polars_compare_nested.specs.Bits.{RawBits}
use Rattle.polars_compare_nested.specs.Broadcasts.{SameAsAll, all_rows}
use Rattle.polars_compare_equality.proofs.Raw.{not-false, same-told}

from-zero : (i : ℕ) → 0 + i ≡ i
from-zero i = omega arith

-- row i of the first n rows
listed-at : (f : ℕ → Row) (n i : ℕ) → i < n → row_at (listed f n) i ≡ f i
listed-at f n i within = get_or-map-range_with_len f 0 n i i Null within (from-zero i)

-- the n rows of an array are its stored ones, those that f gives, where they are present
abbrev IsStored : AnyArray → (ℕ → Row) → ℕ → Type 0
IsStored x f n = (i : ℕ) → i < n → row x i ≡ kept (is_present (mask_of x) i) (f i)

-- a present row is the stored one
stored-at : (x : AnyArray) (f : ℕ → Row) (n i : ℕ) → IsStored x f n → i < n → IsTrue (is_present (mask_of x) i) → row_at (listed f n) i ≡ row x i
stored-at x f n i stored within present =
    listed-at f n i within ∙ sym (stored i within ∙ ap (λ (b : Bool). kept b (f i)) present)

-- bits of whole arrays of one type are raw equality
pub equal-bits :
    (x y : AnyArray) (f g : ℕ → Row) (k n m : ℕ) (bits : List Bool) → IsStored x f n → IsStored y g m → k ≡ n → n ≡ m → type_of x ≡ type_of y
    → RawBits same_leaf x 0 y 0 k bits
    → RawEquality true (type_of x ≡ type_of y) (mask_of x) (mask_of y) (listed f n) (listed g m) bits
equal-bits x y f g k n m bits left right all as_long one_type raw = record {
  size = raw.size ∙ all ∙ sym (length-map-range_with_len f 0 n);
  at_present = λ i h p q.
      let below : i < n = omega (arith, h, length-map-range_with_len f 0 n) in
      let this : row_at (listed f n) i ≡ row x i = stored-at x f n i left below p in
      let that : row_at (listed g m) i ≡ row y i = stored-at y g m i right (omega (arith, below, as_long)) q in
      let bit : IsTrue (is_present (mask_of x) i) × IsTrue (is_present (mask_of y) i) → slice_index_or bits i false ≡ same same_leaf (row x i) (row y i) = subst (λ (j : ℕ). IsTrue (is_present (mask_of x) j) × IsTrue (is_present (mask_of y) j) → slice_index_or bits i false ≡ same same_leaf (row x j) (row y j)) (from-zero i) (raw.at_present i (omega (arith, below, all))) in
      let told = same-told (row x i) (row y i) in
      ((λ t. (one_type, this ∙ told.0 (sym (bit (p, q)) ∙ t) ∙ sym that)), (λ s. bit (p, q) ∙ told.1 (sym this ∙ s.1 ∙ that)));
}

-- bits of rows against all rows of one array are raw equality with a scalar
pub equal-all :
    (l : Option (List Bool)) (f : ℕ → Row) (all : AnyArray) (n : ℕ) (bits : List Bool) → SameAsAll f all n bits
    → RawEquality true ⊤ l None (listed f n) (replicate (length (listed f n)) (all_rows all)) bits
equal-all l f all n bits same = record {
  size = same.size ∙ sym (length-map-range_with_len f 0 n);
  at_present = λ i h p q.
      let below : i < n = omega (arith, h, length-map-range_with_len f 0 n) in
      let this : row_at (listed f n) i ≡ f i = listed-at f n i below in
      let that : row_at (replicate (length (listed f n)) (all_rows all)) i ≡ all_rows all = get_or-replicate (length (listed f n)) i (all_rows all) Null h in
      let bit = same.at_each i below in
      let told = same-told (f i) (all_rows all) in
      ((λ t. (tt, this ∙ told.0 (sym bit ∙ t) ∙ sym that)), (λ s. bit ∙ told.1 (sym this ∙ s.1 ∙ that)));
}

-- two types of lists of one width are equal only where the widths are
pub widths-equal : (x y : Kind) (m n : ℕ) → FixedSizeListKind x m ≡ FixedSizeListKind y n → m ≡ n
widths-equal x y m n e = cc

-- two types of structs are equal only where their fields are
pub fields-equal : (x y : NamedKinds) → StructKind x ≡ StructKind y → x ≡ y
fields-equal x y e = cc

module _ (one_type : Type 0) (l r : Option (List Bool)) (xs ys : List Row) where
  -- rows of arrays of different types are nowhere equal
  pub apart : (n : ℕ) → (one_type → ⊥) → n ≡ length xs → RawEquality true one_type l r xs ys (replicate n false)
  apart n differ all = record {
    size = length-replicate n false ∙ all;
    at_present = λ i h p q.
        let unset : slice_index_or (replicate n false) i false ≡ false = get_or-replicate n i false false (omega (arith, h, all)) in
        ((λ t. let no : false ≡ true = sym unset ∙ t in cc), (λ s. absurd (differ s.0)));
  }

  -- bits of equality, each turned, are those of inequality
  pub turned : (bits : List Bool) → RawEquality true one_type l r xs ys bits → RawEquality false one_type l r xs ys (map not bits)
  turned bits raw = record {
    size = length-map bits not ∙ raw.size;
    at_present = λ i h p q.
        let bit : slice_index_or (map not bits) i false ≡ not (slice_index_or bits i false) = get_or-map not bits i false false (omega (arith, h, raw.size)) in
        let told = raw.at_present i h p q in
        ((λ t. told.0 (not-false _ (sym bit ∙ t))), (λ s. bit ∙ ap not (told.1 s)));
  }
