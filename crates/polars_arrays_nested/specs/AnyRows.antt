-- The rows of any array.
use Rattle.std.specs.Prelude.{ℕ, zero, suc, ◌+◌, ◌*◌, pos, List, map}
use Rattle.std.specs.List.{range_with_len}
use Rattle.polars_arrays_bytes.specs.OffsetStrings.{offset_rows}
use Rattle.polars_arrays_bytes.specs.SizedStrings.{sized_rows}
use Rattle.polars_arrays_flat.specs.ArrayRows.{number_rows, truth_rows}
use Rattle.polars_arrays_flat.specs.Row.{Row, Rows, Fields, Entry, RowList, no_rows, more_rows}
use Rattle.polars_arrays_flat.specs.Row.{Null as Missing}
use Rattle.polars_arrays_flat.specs.StoredRows.{kept}
use Rattle.polars_arrays_flat.specs.StoredRows.{row as row_at}
use Rattle.polars_arrays_flat.specs.Validity.{is_present}
use Rattle.polars_arrays_nested.specs.DictKeys.{key_at, key_validity}
use Rattle.polars_arrays_nested.specs.Lengths.{len_of}
use Rattle.polars_arrays_nested.specs.ListOffsets.{offset_at, span}
use Rattle.polars_arrays_nested.specs.declared.any_array.AnyArray.{AnyArray, Null, Boolean, Int8}
use Rattle.polars_arrays_nested.specs.declared.any_array.AnyArray.{Int16, Int32, Int64, Int128}
use Rattle.polars_arrays_nested.specs.declared.any_array.AnyArray.{UInt8, UInt16, UInt32, UInt64}
use Rattle.polars_arrays_nested.specs.declared.any_array.AnyArray.{UInt128, Binary, LargeBinary}
use Rattle.polars_arrays_nested.specs.declared.any_array.AnyArray.{Utf8, LargeUtf8, BinaryView}
use Rattle.polars_arrays_nested.specs.declared.any_array.AnyArray.{Utf8View, FixedSizeBinary, List'}
use Rattle.polars_arrays_nested.specs.declared.any_array.AnyArray.{FixedSizeList', Struct'}
use Rattle.polars_arrays_nested.specs.declared.any_array.AnyArray.{Dictionary', Row_of-AnyArray}
use Rattle.polars_arrays_nested.specs.declared.any_array.AnyArray.{end_of-AnyArray}
use Rattle.polars_arrays_nested.specs.declared.any_array.AnyArray.{more_of-AnyArray}
use Rattle.polars_arrays_views.specs.Parts.{view_rows}

-- the rows f k for the `count` indices k from `from` on
abbrev pub rows_from : (ℕ → Row) → ℕ → ℕ → RowList
rows_from f from zero = no_rows
rows_from f from (suc count) = more_rows (f from) (rows_from f (from + 1) count)

-- the row of a present key: Null if its entry is null (our own choice), else the entry
abbrev pub entry_row : Row → Row
entry_row Missing = Missing
entry_row entry = Entry entry

abbrev mutual
  -- row i of an array, or Null if it is masked (the Arrow layout). A list has the items between its
  -- two offsets, or the `width` items from width * i on. A struct has row i of each column. A row
  -- of a dictionary is the entry to which its key refers, or Null if the entry is Null
  pub row : AnyArray → ℕ → Row
  row (Null a) i = Missing
  row (Boolean a) i = row_at (truth_rows a) i
  row (Int8 a) i = row_at (number_rows (λ x. x) a) i
  row (Int16 a) i = row_at (number_rows (λ x. x) a) i
  row (Int32 a) i = row_at (number_rows (λ x. x) a) i
  row (Int64 a) i = row_at (number_rows (λ x. x) a) i
  row (Int128 a) i = row_at (number_rows (λ x. x) a) i
  row (UInt8 a) i = row_at (number_rows (λ x. pos x) a) i
  row (UInt16 a) i = row_at (number_rows (λ x. pos x) a) i
  row (UInt32 a) i = row_at (number_rows (λ x. pos x) a) i
  row (UInt64 a) i = row_at (number_rows (λ x. pos x) a) i
  row (UInt128 a) i = row_at (number_rows (λ x. pos x) a) i
  row (Binary a) i = row_at (offset_rows (λ x. x) a) i
  row (LargeBinary a) i = row_at (offset_rows (λ x. x) a) i
  row (Utf8 a) i = row_at (offset_rows (λ x. x) a) i
  row (LargeUtf8 a) i = row_at (offset_rows (λ x. x) a) i
  row (BinaryView a) i = row_at (view_rows a) i
  row (Utf8View a) i = row_at (view_rows a) i
  row (FixedSizeBinary a) i = row_at (sized_rows a) i
  row (List' offsets p values validity) i =
      kept (is_present validity i)
      (Rows (rows_from (λ k. row values k) (offset_at offsets i) (span offsets i)))
  row (FixedSizeList' width len p values validity) i =
      kept (is_present validity i) (Rows (rows_from (λ k. row values k) (width * i) width))
  row (Struct' fields len p values validity) i =
      kept (is_present validity i) (Fields (across values i))
  row (Dictionary' keys p values) i =
      kept (is_present (key_validity keys) i) (entry_row (row values (key_at keys i)))

  -- row i of each array
  pub across : {m : _} → Row_of-AnyArray m → ℕ → RowList
  across end_of-AnyArray i = no_rows
  across (more_of-AnyArray first rest) i = more_rows (row first i) (across rest i)

-- all rows of an array
abbrev pub rows : AnyArray → List Row
rows a = map (row a) (range_with_len 0 (len_of a))
