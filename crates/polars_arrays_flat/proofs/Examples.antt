-- Worked examples of the definitions: the check computes both sides of each.
use Rattle.std.specs.Prelude.{◌≡◌, ℕ, pos, true, false, [], ◌∷◌, Some, None, string_bytes, refl}
use Rattle.polars_arrays_flat.specs.ArrayRows.{number_rows, truth_rows, is_null, null_total, filled_row, MasksByPlace}
use Rattle.polars_arrays_flat.specs.ByteOrder.{bytes_lt, few_number}
use Rattle.polars_arrays_flat.specs.DataType.{key_kind, kind_of, kinds_of, IsSameField}
use Rattle.polars_arrays_flat.specs.Kind.{UInt64Kind, FixedSizeBinaryKind, Utf8ViewKind, ListKind, LargeListKind, no_kinds, more_kinds}
use Rattle.polars_arrays_flat.specs.KindEquality.{kind_eq, named_eq, dtype_eq, field_eq}
use Rattle.polars_arrays_flat.specs.Row.{Null, Int, Truth, Rows, no_rows, more_rows, row_list}
use Rattle.polars_arrays_flat.specs.StoredRows.{row, kept, rows_under, number_slots, truth_slots}
use Rattle.polars_arrays_flat.specs.Validity.{is_present, masked_count, window, validity_window}
use Rattle.polars_arrays_flat.specs.declared.data_type.IntegerType.TheVariants as key
use Rattle.polars_arrays_flat.specs.declared.data_type.ArrowDataType.{Utf8View, FixedSizeBinary}
use Rattle.polars_arrays_flat.specs.declared.data_type.Field.{Field}

-- 1 and a null over 9 are the rows of 1 and a null over 8
rows_under-masked : rows_under (Some (true ∷ false ∷ [])) (number_slots (λ x. x) (pos 1 ∷ pos 9 ∷ [])) ≡ Int (pos 1) ∷ Null ∷ []
rows_under-masked = refl

rows_under-same : rows_under (Some (true ∷ false ∷ [])) (number_slots (λ x. x) (pos 1 ∷ pos 8 ∷ [])) ≡ Int (pos 1) ∷ Null ∷ []
rows_under-same = refl

-- without a validity, and with one that is all 1, each stored row is a row
rows_under-all : rows_under None (truth_slots (true ∷ false ∷ [])) ≡ Truth true ∷ Truth false ∷ []
rows_under-all = refl

rows_under-set : rows_under (Some (true ∷ true ∷ [])) (truth_slots (true ∷ false ∷ [])) ≡ Truth true ∷ Truth false ∷ []
rows_under-set = refl

row-past_end : row (Truth true ∷ []) 1 ≡ Null
row-past_end = refl

-- a list row [[1, null], []]
row_list-nested : Rows (row_list (Rows (row_list (Int (pos 1) ∷ Null ∷ [])) ∷ Rows no_rows ∷ [])) ≡ Rows (more_rows (Rows (more_rows (Int (pos 1)) (more_rows Null no_rows))) (more_rows (Rows no_rows) no_rows))
row_list-nested = refl

is_present-bits : is_present (Some (true ∷ false ∷ [])) 1 ≡ false
is_present-bits = refl

is_present-none : is_present None 7 ≡ true
is_present-none = refl

masked_count-bits : masked_count (Some (true ∷ false ∷ false ∷ [])) ≡ 2
masked_count-bits = refl

window-inside : window {A = ℕ} 1 2 (5 ∷ 6 ∷ 7 ∷ 8 ∷ []) ≡ 6 ∷ 7 ∷ []
window-inside = refl

validity_window-inside : validity_window 1 2 (Some (true ∷ false ∷ true ∷ [])) ≡ Some (false ∷ true ∷ [])
validity_window-inside = refl

kind_of-view : kind_of Utf8View ≡ Utf8ViewKind
kind_of-view = refl

kind_of-sized : kind_of (FixedSizeBinary 3) ≡ FixedSizeBinaryKind 3
kind_of-sized = refl

key_kind-unsigned : key_kind key.UInt64 ≡ UInt64Kind
key_kind-unsigned = refl

kept-masked : kept false (Truth true) ≡ Null
kept-masked = refl

kept-present : kept true (Truth true) ≡ Truth true
kept-present = refl

kinds_of-none : kinds_of [] ≡ no_kinds
kinds_of-none = refl

-- 1, a null over 9 and 3
number_rows-masked : number_rows (λ x. x) (record { values = pos 1 ∷ pos 9 ∷ pos 3 ∷ []; validity = Some (true ∷ false ∷ true ∷ []); owned = true }) ≡ Int (pos 1) ∷ Null ∷ Int (pos 3) ∷ []
number_rows-masked = refl

truth_rows-masked : truth_rows (record { values = true ∷ false ∷ []; validity = Some (false ∷ true ∷ []) }) ≡ Null ∷ Truth false ∷ []
truth_rows-masked = refl

-- row 1 is masked, so it is Null
row-masked : row (rows_under (Some (true ∷ false ∷ [])) (truth_slots (true ∷ true ∷ []))) 1 ≡ Null
row-masked = refl

is_null-null : is_null Null ≡ true
is_null-null = refl

is_null-number : is_null (Int (pos 0)) ≡ false
is_null-number = refl

null_total-some : null_total (Int (pos 1) ∷ Null ∷ Null ∷ []) ≡ 2
null_total-some = refl

filled_row-null : filled_row (pos 7) Null ≡ Null
filled_row-null = refl

filled_row-number : filled_row (pos 7) (Int (pos 1)) ≡ Int (pos 7)
filled_row-number = refl

kind_eq-sizes : kind_eq (FixedSizeBinaryKind 3) (FixedSizeBinaryKind 4) ≡ false
kind_eq-sizes = refl

-- lists of one item, and a list beside a list of long offsets
kind_eq-lists : kind_eq (ListKind UInt64Kind) (ListKind UInt64Kind) ≡ true
kind_eq-lists = refl

kind_eq-offsets : kind_eq (ListKind UInt64Kind) (LargeListKind UInt64Kind) ≡ false
kind_eq-offsets = refl

-- a field `a` and a field `b` of one type
named_eq-names : named_eq (more_kinds (97 ∷ []) UInt64Kind no_kinds) (more_kinds (98 ∷ []) UInt64Kind no_kinds) ≡ false
named_eq-names = refl

dtype_eq-size : dtype_eq (FixedSizeBinary 3) (FixedSizeBinary 3) ≡ true
dtype_eq-size = refl

field_eq-names : (f g : Field) → string_bytes f.name ≡ 97 ∷ [] → string_bytes g.name ≡ 98 ∷ [] → field_eq f g ≡ false
field_eq-names f g first second = rw (first, second) refl

IsSameField-self : (f : Field) → IsSameField f f
IsSameField-self f = record { name = refl; kind = refl }

-- the law of rows, at a row that is masked
MasksByPlace-masked : MasksByPlace → row (rows_under (Some (false ∷ [])) (truth_slots (true ∷ []))) 0 ≡ Null
MasksByPlace-masked law = law (Some (false ∷ [])) (truth_slots (true ∷ [])) 0

bytes_lt-first_byte : bytes_lt (97 ∷ 98 ∷ []) (98 ∷ 97 ∷ []) ≡ true
bytes_lt-first_byte = refl

bytes_lt-fifth_byte : bytes_lt (97 ∷ 98 ∷ 99 ∷ 100 ∷ 101 ∷ []) (97 ∷ 98 ∷ 99 ∷ 100 ∷ 102 ∷ []) ≡ true
bytes_lt-fifth_byte = refl

-- a proper beginning is less, also where zeros follow it
bytes_lt-beginning : bytes_lt (97 ∷ []) (97 ∷ 0 ∷ []) ≡ true
bytes_lt-beginning = refl

bytes_lt-itself : bytes_lt (97 ∷ []) (97 ∷ []) ≡ false
bytes_lt-itself = refl

few_number-two : few_number 2 (1 ∷ 2 ∷ 3 ∷ []) ≡ 66050
few_number-two = refl

few_number-none : few_number 0 (1 ∷ []) ≡ 0
few_number-none = refl
