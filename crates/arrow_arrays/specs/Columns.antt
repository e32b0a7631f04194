-- The columns of rows that parts of lent arrays stand for (the Arrow layout).
use Rattle.std.specs.Prelude.{◌+◌, ◌-◌, ◌*◌, ℕ, pos, Bool, List, [], ◌∷◌, Option, Some, None, cond}
use Rattle.std.specs.Prelude.{take, drop}
use Rattle.polars_arrays_bytes.specs.OffsetStrings.{place_at, places, strings_between}
use Rattle.polars_arrays_bytes.specs.SizedStrings.{sized_strings}
use Rattle.polars_arrays_flat.specs.Kind.{Kind, NullKind, BooleanKind, Int8Kind, Int16Kind}
use Rattle.polars_arrays_flat.specs.Kind.{Int32Kind, Int64Kind, Int128Kind, UInt8Kind, UInt16Kind}
use Rattle.polars_arrays_flat.specs.Kind.{UInt32Kind, UInt64Kind, UInt128Kind, LargeBinaryKind}
use Rattle.polars_arrays_flat.specs.Kind.{LargeUtf8Kind, FixedSizeBinaryKind, LargeListKind}
use Rattle.polars_arrays_flat.specs.Kind.{FixedSizeListKind, StructKind, DictionaryKind}
use Rattle.polars_arrays_flat.specs.Kind.{NamedKinds, no_kinds, more_kinds}
use Rattle.polars_arrays_flat.specs.Row.{Row, RowList, Rows, Fields, no_rows, more_rows}
use Rattle.polars_arrays_flat.specs.Row.{Null as Missing}
use Rattle.polars_arrays_flat.specs.StoredRows.{byte_slots, kept, number_slots, truth_slots}
use Rattle.polars_arrays_flat.specs.StoredRows.{row as row_at}
use Rattle.polars_arrays_flat.specs.Validity.{is_present}
use Rattle.polars_arrays_nested.specs.AnyRows.{entry_row, rows_from}
use Rattle.polars_arrays_nested.specs.Leaves.{total}
use Rattle.polars_arrays_nested.specs.Places.{place_or_zero}
use Rattle.polars_arrays_views.specs.Parts.{strings_of}
use Rattle.arrow_parts.specs.ByteBits.{byte_window}
use Rattle.arrow_parts.specs.Kinds.{kind_number}
use Rattle.arrow_parts.specs.Lent.{buffers_in, places_from, present_in, signed_wide, wide_numbers}
use Rattle.arrow_parts.specs.declared.part.Part.{Part}
use Rattle.arrow_parts.specs.declared.part.PartKind.{PartKind}
use Rattle.arrow_parts.specs.declared.part.PartKind.TheVariants as kind

-- the name, the type, the number of rows, the row at each place, and the leaf slots in n rows from
-- a place on: what a comparison of these rows looks at, at most
pub record Column : Type 0 where
  pub name : List ℕ
  pub kind : Kind
  pub len : ℕ
  pub row : ℕ → Row
  pub leaves : ℕ → ℕ → ℕ

-- the column of no rows, with a name
abbrev pub no_column : List ℕ → Column
no_column name = record {
  name = name;
  kind = NullKind;
  len = 0;
  row = λ i. Missing;
  leaves = λ from n. 0;
}

-- the type of the one column
abbrev pub kind_inside : List Column → Kind
kind_inside (column ∷ []) = column.kind
kind_inside _ = NullKind

-- the names and types of columns
abbrev pub named_kinds : List Column → NamedKinds
named_kinds [] = no_kinds
named_kinds (first ∷ rest) = more_kinds first.name first.kind (named_kinds rest)

-- place i, or 0
abbrev pub placed : List (Option ℕ) → ℕ → ℕ
placed all i = place_or_zero (place_at all i)

-- list i: the items between place i and place i + 1
abbrev pub lists : List (Option ℕ) → List Column → ℕ → Row
lists all (items ∷ []) i =
    Rows (rows_from items.row (placed all i) (placed all (i + 1) - placed all i))
lists all _ i = Missing

-- list i: the `width` items from width * i on
abbrev pub fixed_lists : ℕ → List Column → ℕ → Row
fixed_lists width (items ∷ []) i = Rows (rows_from items.row (width * i) width)
fixed_lists width _ i = Missing

-- row i of each column
abbrev pub across : List Column → ℕ → RowList
across [] i = no_rows
across (first ∷ rest) i = more_rows (first.row i) (across rest i)

-- the entry that key i names
abbrev pub entries : List (Option ℕ) → List Column → ℕ → Row
entries all (named ∷ []) i = entry_row (named.row (placed all i))
entries all _ i = Missing

-- the leaf slots of n lists from list `from` on: those of their items
abbrev pub list_leaves : List (Option ℕ) → List Column → ℕ → ℕ → ℕ
list_leaves all (items ∷ []) from n =
    items.leaves (placed all from) (placed all (from + n) - placed all from)
list_leaves all _ from n = 0

-- the leaf slots of n lists of `width` items from list `from` on: those of their items
abbrev pub fixed_leaves : ℕ → List Column → ℕ → ℕ → ℕ
fixed_leaves width (items ∷ []) from n = items.leaves (width * from) (width * n)
fixed_leaves width _ from n = 0

-- the leaf slots of n rows of all columns
abbrev pub leaves_across : List Column → ℕ → ℕ → ℕ
leaves_across [] from n = 0
leaves_across (first ∷ rest) from n = first.leaves from n + leaves_across rest from n

-- the leaf slots of the entries that n keys name, an entry once for each present row of it
abbrev pub entry_leaves : Option (List Bool) → List (Option ℕ) → List Column → ℕ → ℕ → ℕ
entry_leaves validity all (named ∷ []) from n =
    total (λ k. cond (is_present validity k) (named.leaves (placed all k) 1) 0) from n
entry_leaves validity all _ from n = 0

-- the places that the keys of a dictionary name
abbrev pub keys_in : PartKind → Part → List (Option ℕ)
keys_in kind.DictInt8 p = places (λ x. x) p.i8s.now
keys_in kind.DictInt16 p = places (λ x. x) p.i16s.now
keys_in kind.DictInt32 p = places (λ x. x) p.i32s.now
keys_in kind.DictInt64 p = places (λ x. x) p.i64s.now
keys_in kind.DictUInt8 p = places (λ x. pos x) p.u8s.now
keys_in kind.DictUInt16 p = places (λ x. pos x) p.u16s.now
keys_in kind.DictUInt32 p = places (λ x. pos x) p.u32s.now
keys_in kind.DictUInt64 p = places (λ x. pos x) p.u64s.now
keys_in _ p = []

-- the places of a part's offsets, of 32 or of 64 bits
abbrev pub near_ends : Part → List (Option ℕ)
near_ends p = places_from p.base (λ x. x) p.i32s.now

abbrev pub far_ends : Part → List (Option ℕ)
far_ends p = places_from p.base (λ x. x) p.i64s.now

-- the byte strings of a part, between places or of its views
abbrev pub strings_in : List (Option ℕ) → Part → ℕ → Row
strings_in all p = row_at (byte_slots (strings_between all p.u8s.now))

abbrev pub viewed_strings : Part → ℕ → Row
viewed_strings p =
    row_at (byte_slots (strings_of (buffers_in p) (sized_strings 16 p.rows p.u8s.now)))

-- the rows that a part of a kind stores over the columns inside it, also where they are masked
abbrev pub stored_in : PartKind → Part → List Column → ℕ → Row
stored_in kind.Null p cs = λ i. Missing
stored_in kind.Boolean p cs = row_at (truth_slots (byte_window p.first_bit p.rows p.u8s.now))
stored_in kind.Int8 p cs = row_at (number_slots (λ x. x) p.i8s.now)
stored_in kind.Int16 p cs = row_at (number_slots (λ x. x) p.i16s.now)
stored_in kind.Int32 p cs = row_at (number_slots (λ x. x) p.i32s.now)
stored_in kind.Int64 p cs = row_at (number_slots (λ x. x) p.i64s.now)
stored_in kind.Int128 p cs = row_at (number_slots signed_wide (wide_numbers p.u64s.now))
stored_in kind.UInt8 p cs = row_at (number_slots (λ x. pos x) p.u8s.now)
stored_in kind.UInt16 p cs = row_at (number_slots (λ x. pos x) p.u16s.now)
stored_in kind.UInt32 p cs = row_at (number_slots (λ x. pos x) p.u32s.now)
stored_in kind.UInt64 p cs = row_at (number_slots (λ x. pos x) p.u64s.now)
stored_in kind.UInt128 p cs = row_at (number_slots (λ x. pos x) (wide_numbers p.u64s.now))
stored_in kind.Binary p cs = strings_in (near_ends p) p
stored_in kind.LargeBinary p cs = strings_in (far_ends p) p
stored_in kind.Utf8 p cs = strings_in (near_ends p) p
stored_in kind.LargeUtf8 p cs = strings_in (far_ends p) p
stored_in kind.FixedSizeBinary p cs = row_at (byte_slots (sized_strings p.width p.rows p.u8s.now))
stored_in kind.List p cs = lists (near_ends p) cs
stored_in kind.LargeList p cs = lists (far_ends p) cs
stored_in kind.FixedSizeList p cs = fixed_lists p.width cs
stored_in kind.Struct p cs = λ i. Fields (across cs i)
stored_in kind.DictInt8 p cs = entries (keys_in kind.DictInt8 p) cs
stored_in kind.DictInt16 p cs = entries (keys_in kind.DictInt16 p) cs
stored_in kind.DictInt32 p cs = entries (keys_in kind.DictInt32 p) cs
stored_in kind.DictInt64 p cs = entries (keys_in kind.DictInt64 p) cs
stored_in kind.DictUInt8 p cs = entries (keys_in kind.DictUInt8 p) cs
stored_in kind.DictUInt16 p cs = entries (keys_in kind.DictUInt16 p) cs
stored_in kind.DictUInt32 p cs = entries (keys_in kind.DictUInt32 p) cs
stored_in kind.DictUInt64 p cs = entries (keys_in kind.DictUInt64 p) cs
stored_in kind.BinaryView p cs = viewed_strings p
stored_in kind.Utf8View p cs = viewed_strings p

-- the leaf slots of a part of a kind: one for each row of one level, null or not, and none for
-- nulls
abbrev pub leaves_in : PartKind → Part → List Column → ℕ → ℕ → ℕ
leaves_in kind.Null p cs = λ from n. 0
leaves_in kind.List p cs = list_leaves (near_ends p) cs
leaves_in kind.LargeList p cs = list_leaves (far_ends p) cs
leaves_in kind.FixedSizeList p cs = fixed_leaves p.width cs
leaves_in kind.Struct p cs = leaves_across cs
leaves_in kind.DictInt8 p cs = entry_leaves (present_in p) (keys_in kind.DictInt8 p) cs
leaves_in kind.DictInt16 p cs = entry_leaves (present_in p) (keys_in kind.DictInt16 p) cs
leaves_in kind.DictInt32 p cs = entry_leaves (present_in p) (keys_in kind.DictInt32 p) cs
leaves_in kind.DictInt64 p cs = entry_leaves (present_in p) (keys_in kind.DictInt64 p) cs
leaves_in kind.DictUInt8 p cs = entry_leaves (present_in p) (keys_in kind.DictUInt8 p) cs
leaves_in kind.DictUInt16 p cs = entry_leaves (present_in p) (keys_in kind.DictUInt16 p) cs
leaves_in kind.DictUInt32 p cs = entry_leaves (present_in p) (keys_in kind.DictUInt32 p) cs
leaves_in kind.DictUInt64 p cs = entry_leaves (present_in p) (keys_in kind.DictUInt64 p) cs
leaves_in _ p cs = λ from n. n

-- the type of a part of a kind. Offsets of 32 bits, offsets of 64 bits and views are no types of
-- their own.
abbrev pub kind_in : PartKind → Part → List Column → Kind
kind_in kind.Null p cs = NullKind
kind_in kind.Boolean p cs = BooleanKind
kind_in kind.Int8 p cs = Int8Kind
kind_in kind.Int16 p cs = Int16Kind
kind_in kind.Int32 p cs = Int32Kind
kind_in kind.Int64 p cs = Int64Kind
kind_in kind.Int128 p cs = Int128Kind
kind_in kind.UInt8 p cs = UInt8Kind
kind_in kind.UInt16 p cs = UInt16Kind
kind_in kind.UInt32 p cs = UInt32Kind
kind_in kind.UInt64 p cs = UInt64Kind
kind_in kind.UInt128 p cs = UInt128Kind
kind_in kind.Binary p cs = LargeBinaryKind
kind_in kind.LargeBinary p cs = LargeBinaryKind
kind_in kind.Utf8 p cs = LargeUtf8Kind
kind_in kind.LargeUtf8 p cs = LargeUtf8Kind
kind_in kind.FixedSizeBinary p cs = FixedSizeBinaryKind p.width
kind_in kind.List p cs = LargeListKind (kind_inside cs)
kind_in kind.LargeList p cs = LargeListKind (kind_inside cs)
kind_in kind.FixedSizeList p cs = FixedSizeListKind (kind_inside cs) p.width
kind_in kind.Struct p cs = StructKind (named_kinds cs)
kind_in kind.DictInt8 p cs = DictionaryKind Int8Kind (kind_inside cs)
kind_in kind.DictInt16 p cs = DictionaryKind Int16Kind (kind_inside cs)
kind_in kind.DictInt32 p cs = DictionaryKind Int32Kind (kind_inside cs)
kind_in kind.DictInt64 p cs = DictionaryKind Int64Kind (kind_inside cs)
kind_in kind.DictUInt8 p cs = DictionaryKind UInt8Kind (kind_inside cs)
kind_in kind.DictUInt16 p cs = DictionaryKind UInt16Kind (kind_inside cs)
kind_in kind.DictUInt32 p cs = DictionaryKind UInt32Kind (kind_inside cs)
kind_in kind.DictUInt64 p cs = DictionaryKind UInt64Kind (kind_inside cs)
kind_in kind.BinaryView p cs = LargeBinaryKind
kind_in kind.Utf8View p cs = LargeUtf8Kind

-- stored rows of a type, with Null in place of those that are not present, and their leaf slots
abbrev pub column_with : Part → Kind → (ℕ → Row) → (ℕ → ℕ → ℕ) → Column
column_with p type stored slots = record {
  name = p.name.now;
  kind = type;
  len = p.rows;
  row = λ i. kept (is_present (present_in p) i) (stored i);
  leaves = slots;
}

-- the column of a part over the columns inside it
abbrev pub column_of : Option PartKind → Part → List Column → Column
column_of None p cs = no_column p.name.now
column_of (Some k) p cs = column_with p (kind_in k p cs) (stored_in k p cs) (leaves_in k p cs)

-- a part's column in place of the columns that it takes, which are the first
abbrev pub stacked : Part → List Column → List Column
stacked p cs = column_of (kind_number p.kind) p (take p.children cs) ∷ drop p.children cs

-- the columns that parts in pre-order stand for: each part takes its children from those after it
abbrev pub columns_of : List Part → List Column
columns_of [] = []
columns_of (p ∷ rest) = stacked p (columns_of rest)

-- the one column, or no rows
abbrev pub only : List Column → Column
only (column ∷ []) = column
only _ = no_column []

-- the rows that parts stand for
abbrev pub rows_of_parts : List Part → Column
rows_of_parts parts = only (columns_of parts)

-- the leaf slots of all rows that parts stand for
abbrev pub leaves_of_parts : List Part → ℕ
leaves_of_parts parts = (rows_of_parts parts).leaves 0 (rows_of_parts parts).len
