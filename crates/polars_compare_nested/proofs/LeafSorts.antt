-- The rows of leaf arrays are leaves, and of one sort where the arrays are of one type.
use Rattle.std.proofs.Common.{◌≡◌, ◌<◌, ◌≤◌, ◌+◌, ◌-◌, ◌∙◌, ℕ, ℤ, pos, zero, suc, Bool, true, false, IsTrue, List, [], ◌∷◌, Option, Some, None, length, map, refl, sym, ap, subst, arith, add-zero, get_or, slice_get, slice_index_or}
use Rattle.std.specs.List.{range_with_len}
use Rattle.std.proofs.lemmas.List.{length-map}
use Rattle.std.proofs.lemmas.Option.{get_or_from_slice_get}
use Rattle.std.proofs.lemmas.List.FromFn.{length-range_with_len}
use Rattle.polars_arrays_bytes.specs.OffsetStrings.{row_count, places, strings_between, string_between}
use Rattle.polars_arrays_bytes.specs.SizedStrings.{sized_string}
use Rattle.polars_arrays_flat.specs.Kind.{Kind, BooleanKind, Int8Kind, Int16Kind, Int32Kind, Int64Kind, Int128Kind, UInt8Kind, UInt16Kind, UInt32Kind, UInt64Kind, UInt128Kind, BinaryKind, LargeBinaryKind, Utf8Kind, LargeUtf8Kind, BinaryViewKind, Utf8ViewKind, FixedSizeBinaryKind}
use Rattle.polars_arrays_flat.specs.Row.{Row, Null, Int, Truth, Bytes, Rows, Fields, Entry}
use Rattle.polars_arrays_flat.specs.StoredRows.{masked, rows_under}
use Rattle.polars_arrays_flat.specs.StoredRows.{row as row_at}
use Rattle.polars_arrays_flat.specs.Validity.{is_present}
use Rattle.polars_arrays_nested.specs.AnyRows.{row}
use Rattle.polars_arrays_nested.specs.Lengths.{len_of}
use Rattle.polars_arrays_nested.specs.Masks.{mask_of}
use Rattle.polars_arrays_nested.specs.Types.{type_of}
use Rattle.polars_arrays_nested.specs.declared.any_array.AnyArray.{AnyArray, Boolean, Int8, Int16, Int32, Int64, Int128, UInt8, UInt16, UInt32, UInt64, UInt128, Binary, LargeBinary, Utf8, LargeUtf8, BinaryView, Utf8View, FixedSizeBinary, FixedSizeList, Struct, Dictionary, List', FixedSizeList', Struct', Dictionary', roll-AnyArray, roll-out-AnyArray}
use Rattle.polars_arrays_nested.specs.declared.any_array.AnyArray.{List as Lists, Null as Nulls}
use Rattle.polars_arrays_nested.specs.declared.any_array.AnyArray.TheVariants.{outs-Struct', rolls-Struct}
use Rattle.polars_arrays_nested.specs.declared.any_array.AnyArray.TheBlock.{shown-the_row-AnyArray-0}
use Rattle.polars_arrays_nested.specs.declared.list_offsets.ListOffsets.TheVariants.{Small, Large}
use Rattle.polars_arrays_nested.specs.declared.struct_array.StructArray.{StructArray}
use Rattle.polars_arrays_views.specs.Views.{row_bytes}
use Rattle.polars_compare_leaves.specs.Sameness.{same}
use Rattle.polars_compare_nested.specs.Bits.{LeafBit, LeafBits, RawBits, SamePresent}
use Rattle.polars_compare_nested.specs.Leaf.{is_leaf}
use Rattle.polars_compare_nested.specs.Tally.{tally}

-- the sort of a row, below 3 for leaves
abbrev row_sort : Row → ℕ
row_sort (Int z) = 0
row_sort (Truth b) = 1
row_sort (Bytes xs) = 2
row_sort Null = 3
row_sort (Rows xs) = 4
row_sort (Fields xs) = 5
row_sort (Entry x) = 6

-- the sort of the rows of leaf arrays, 3 for other kinds
abbrev kind_sort : Kind → ℕ
kind_sort Int8Kind = 0
kind_sort Int16Kind = 0
kind_sort Int32Kind = 0
kind_sort Int64Kind = 0
kind_sort Int128Kind = 0
kind_sort UInt8Kind = 0
kind_sort UInt16Kind = 0
kind_sort UInt32Kind = 0
kind_sort UInt64Kind = 0
kind_sort UInt128Kind = 0
kind_sort BooleanKind = 1
kind_sort BinaryKind = 2
kind_sort LargeBinaryKind = 2
kind_sort Utf8Kind = 2
kind_sort LargeUtf8Kind = 2
kind_sort BinaryViewKind = 2
kind_sort Utf8ViewKind = 2
kind_sort (FixedSizeBinaryKind size) = 2
kind_sort _ = 3

present-masked : (bits : List Bool) (xs : List Row) (i : ℕ) → IsTrue (slice_index_or bits i false) → row_at (masked bits xs) i ≡ row_at xs i
present-masked [] xs i h = cc
present-masked (b ∷ bits) [] i h = refl
present-masked (true ∷ bits) (x ∷ xs) zero h = refl
present-masked (false ∷ bits) (x ∷ xs) zero h = cc
present-masked (b ∷ bits) (x ∷ xs) (suc i) h = present-masked bits xs i h

present-row : (v : Option (List Bool)) (xs : List Row) (i : ℕ) → IsTrue (is_present v i) → row_at (rows_under v xs) i ≡ row_at xs i
present-row None xs i h = refl
present-row (Some bits) xs i h = present-masked bits xs i h

stored-sort : {A : Type 0} (f : A → Row) (k : ℕ) → ((x : A) → row_sort (f x) ≡ k) → (xs : List A) (i : ℕ) → i < length xs → row_sort (row_at (map f xs) i) ≡ k
stored-sort f k each [] i low = absurd (omega arith)
stored-sort f k each (x ∷ xs) zero low = each x
stored-sort f k each (x ∷ xs) (suc i) low = stored-sort f k each xs i (omega arith)

-- a present row is of the sort that all stored rows are of
sort-under : {A : Type 0} (f : A → Row) (k : ℕ) → ((x : A) → row_sort (f x) ≡ k) → (v : Option (List Bool)) (xs : List A) (i : ℕ) → IsTrue (is_present v i) → i < length xs → row_sort (row_at (rows_under v (map f xs)) i) ≡ k
sort-under f k each v xs i here low = ap row_sort (present-row v (map f xs) i here) ∙ stored-sort f k each xs i low

strings-count : {A : Type 0} (value : A → ℤ) (offsets : List A) (bytes : List ℕ) → length (strings_between (places value offsets) bytes) ≡ row_count offsets
strings-count value offsets bytes =
    length-map (range_with_len 0 (row_count (places value offsets))) (string_between (places value offsets) bytes)
    ∙ length-range_with_len 0 (row_count (places value offsets))
    ∙ ap (λ (k : ℕ). k - 1) (length-map offsets _)

-- a present row of a leaf array is of the sort that its type says
leaf-sort : (x : AnyArray) (i : ℕ) → IsTrue (is_leaf (type_of x)) → IsTrue (is_present (mask_of x) i) → i < len_of x → row_sort (row x i) ≡ kind_sort (type_of x)
leaf-sort (Boolean a) i leaf here low = sort-under Truth 1 (λ x. refl) a.validity a.values i here low
leaf-sort (Int8 a) i leaf here low = sort-under (λ x. Int x) 0 (λ x. refl) a.validity a.values i here low
leaf-sort (Int16 a) i leaf here low = sort-under (λ x. Int x) 0 (λ x. refl) a.validity a.values i here low
leaf-sort (Int32 a) i leaf here low = sort-under (λ x. Int x) 0 (λ x. refl) a.validity a.values i here low
leaf-sort (Int64 a) i leaf here low = sort-under (λ x. Int x) 0 (λ x. refl) a.validity a.values i here low
leaf-sort (Int128 a) i leaf here low = sort-under (λ x. Int x) 0 (λ x. refl) a.validity a.values i here low
leaf-sort (UInt8 a) i leaf here low = sort-under (λ x. Int (pos x)) 0 (λ x. refl) a.validity a.values i here low
leaf-sort (UInt16 a) i leaf here low = sort-under (λ x. Int (pos x)) 0 (λ x. refl) a.validity a.values i here low
leaf-sort (UInt32 a) i leaf here low = sort-under (λ x. Int (pos x)) 0 (λ x. refl) a.validity a.values i here low
leaf-sort (UInt64 a) i leaf here low = sort-under (λ x. Int (pos x)) 0 (λ x. refl) a.validity a.values i here low
leaf-sort (UInt128 a) i leaf here low = sort-under (λ x. Int (pos x)) 0 (λ x. refl) a.validity a.values i here low
leaf-sort (Binary a) i leaf here low =
    sort-under Bytes 2 (λ x. refl) a.validity _ i here (omega (arith, low, strings-count (λ x. x) a.offsets a.values))
leaf-sort (LargeBinary a) i leaf here low =
    sort-under Bytes 2 (λ x. refl) a.validity _ i here (omega (arith, low, strings-count (λ x. x) a.offsets a.values))
leaf-sort (Utf8 a) i leaf here low =
    sort-under Bytes 2 (λ x. refl) a.validity _ i here (omega (arith, low, strings-count (λ x. x) a.offsets a.values))
leaf-sort (LargeUtf8 a) i leaf here low =
    sort-under Bytes 2 (λ x. refl) a.validity _ i here (omega (arith, low, strings-count (λ x. x) a.offsets a.values))
leaf-sort (BinaryView a) i leaf here low =
    sort-under Bytes 2 (λ x. refl) a.validity _ i here (omega (arith, low, length-map a.views (row_bytes a.buffers)))
leaf-sort (Utf8View a) i leaf here low =
    sort-under Bytes 2 (λ x. refl) a.validity _ i here (omega (arith, low, length-map a.views (row_bytes a.buffers)))
leaf-sort (FixedSizeBinary a) i leaf here low =
    sort-under Bytes 2 (λ x. refl) a.validity _ i here (omega (arith, low, length-map (range_with_len 0 a.count) (sized_string a.size a.values), length-range_with_len 0 a.count))
leaf-sort (List' (Small o) p values v) i leaf here low = cc
leaf-sort (List' (Large o) p values v) i leaf here low = cc
leaf-sort _ i leaf here low = cc

kind_sort-low : (k : Kind) → IsTrue (is_leaf k) → kind_sort k ≤ 2
kind_sort-low BooleanKind leaf = omega arith
kind_sort-low Int8Kind leaf = omega arith
kind_sort-low Int16Kind leaf = omega arith
kind_sort-low Int32Kind leaf = omega arith
kind_sort-low Int64Kind leaf = omega arith
kind_sort-low Int128Kind leaf = omega arith
kind_sort-low UInt8Kind leaf = omega arith
kind_sort-low UInt16Kind leaf = omega arith
kind_sort-low UInt32Kind leaf = omega arith
kind_sort-low UInt64Kind leaf = omega arith
kind_sort-low UInt128Kind leaf = omega arith
kind_sort-low BinaryKind leaf = omega arith
kind_sort-low LargeBinaryKind leaf = omega arith
kind_sort-low Utf8Kind leaf = omega arith
kind_sort-low LargeUtf8Kind leaf = omega arith
kind_sort-low BinaryViewKind leaf = omega arith
kind_sort-low Utf8ViewKind leaf = omega arith
kind_sort-low (FixedSizeBinaryKind size) leaf = omega arith
kind_sort-low _ leaf = cc

-- of two leaves of one sort sameness is what `agree` says
same-leaves : (agree : Row → Row → Bool) (x y : Row) → row_sort x ≡ row_sort y → row_sort x ≤ 2 → agree x y ≡ same agree x y
same-leaves agree (Int m) (Int n) e low = refl
same-leaves agree (Truth p) (Truth q) e low = refl
same-leaves agree (Bytes xs) (Bytes ys) e low = refl
same-leaves agree _ _ e low = absurd (omega arith)

-- of two present leaves sameness is what `agree` says
present_leaves : (agree : Row → Row → Bool) (x y : AnyArray) (i j : ℕ) → IsTrue (is_leaf (type_of x)) → type_of x ≡ type_of y → i < len_of x → j < len_of y → IsTrue (is_present (mask_of x) i) × IsTrue (is_present (mask_of y) j) → agree (row x i) (row y j) ≡ same agree (row x i) (row y j)
present_leaves agree x y i j leaf one_type left_in right_in both =
    let left = leaf-sort x i leaf both.0 left_in in
    let right = leaf-sort y j (subst (λ k. IsTrue (is_leaf k)) one_type leaf) both.1 right_in in
    let one_sort : row_sort (row x i) ≡ row_sort (row y j) = left ∙ ap kind_sort one_type ∙ sym right in
    same-leaves agree (row x i) (row y j) one_sort (omega (arith, left, kind_sort-low (type_of x) leaf))

-- bits of two windows of leaves say whether present rows are the same
pub leaf_bits : (agree : Row → Row → Bool) (x y : AnyArray) (a b n : ℕ) (bits : List Bool) → IsTrue (is_leaf (type_of x)) → type_of x ≡ type_of y → a + n ≤ len_of x → b + n ≤ len_of y → LeafBits agree x a y b n bits → RawBits agree x a y b n bits
leaf_bits agree x y a b n bits leaf one_type left_in right_in h = record {
  size = h.size;
  at_present = λ i low both.
      h.at_present i low both
      ∙ present_leaves agree x y (a + i) (b + i) leaf one_type (omega (arith, low, left_in)) (omega (arith, low, right_in)) both;
}

-- the bit of two leaves says it of them
pub leaf_bit : (agree : Row → Row → Bool) (x y : AnyArray) (a b : ℕ) (bit : Bool) → IsTrue (is_leaf (type_of x)) → type_of x ≡ type_of y → a + 1 ≤ len_of x → b + 1 ≤ len_of y → LeafBit agree x a y b bit → SamePresent agree x a y b bit
leaf_bit agree x y a b bit leaf one_type left_in right_in h both =
    let here : IsTrue (is_present (mask_of x) a) = rw (add-zero a) at both.0 in
    let there : IsTrue (is_present (mask_of y) b) = rw (add-zero b) at both.1 in
    h.at_present (here, there)
    ∙ present_leaves agree x y a b leaf one_type (omega (arith, left_in)) (omega (arith, right_in)) (here, there)

-- the bit of a window of one leaf
pub leaf_first : (agree : Row → Row → Bool) (x : AnyArray) (a : ℕ) (y : AnyArray) (b : ℕ) (bits : List Bool) (bit : Bool) → LeafBits agree x a y b 1 bits → slice_get bits 0 ≡ Some bit → LeafBit agree x a y b bit
leaf_first agree x a y b bits bit h read = record {
  at_present = λ both.
      let at : get_or bits 0 false ≡ agree (row x (a + 0)) (row y (b + 0)) = h.at_present 0 (omega arith) (rw (add-zero a, add-zero b) both) in
      sym (get_or_from_slice_get bits 0 bit false read) ∙ rw (add-zero a, add-zero b) at at;
}

-- a window of leaves costs a comparison a row
pub leaf_tally : (x y : AnyArray) (a b n : ℕ) → IsTrue (is_leaf (type_of x)) → tally x y a b n ≡ n
leaf_tally (Nulls x) y a b n leaf = cc
leaf_tally (List' (Small o) p values v) y a b n leaf = cc
leaf_tally (List' (Large o) p values v) y a b n leaf = cc
leaf_tally (FixedSizeList' width len p values v) y a b n leaf = cc
leaf_tally (Struct' fields len p values v) y a b n leaf = cc
leaf_tally (Dictionary' keys p values) y a b n leaf = cc
leaf_tally _ y a b n leaf = refl

-- an array of no other variant is one of leaves
pub leaf_case : (x : AnyArray) → ((a : _) → x ≡ Nulls a → ⊥) → ((a : _) → x ≡ Lists a → ⊥) → ((a : _) → x ≡ FixedSizeList a → ⊥) → ((a : _) → x ≡ Struct a → ⊥) → ((a : _) → x ≡ Dictionary a → ⊥) → IsTrue (is_leaf (type_of x))
leaf_case (Nulls a) null list fixed struct dictionary = absurd (null a refl)
leaf_case (List' offsets p values v) null list fixed struct dictionary =
    absurd (list (record { offsets = offsets; values = record { ptr = p.ptr; alloc = p.alloc; value = values }; validity = v }) refl)
leaf_case (FixedSizeList' width len p values v) null list fixed struct dictionary =
    absurd (fixed (record { width = width; len = len; values = record { ptr = p.ptr; alloc = p.alloc; value = values }; validity = v }) refl)
leaf_case (Struct' fields len p all v) null list fixed struct dictionary =
    let s : StructArray = record { fields = fields; len = len; values = shown-the_row-AnyArray-0 p all; validity = v } in
    absurd (struct s (sym (roll-out-AnyArray (Struct' fields len p all v)) ∙ ap roll-AnyArray (outs-Struct' fields len p all v) ∙ rolls-Struct s))
leaf_case (Dictionary' keys p values) null list fixed struct dictionary =
    absurd (dictionary (record { keys = keys; values = record { ptr = p.ptr; alloc = p.alloc; value = values } }) refl)
leaf_case _ null list fixed struct dictionary = refl
