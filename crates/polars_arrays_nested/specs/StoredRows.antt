-- The stored rows of nested arrays, whatever the validity.
use Rattle.std.specs.Prelude.{◌*◌, ℕ, List, map}
use Rattle.std.specs.List.{range_with_len}
use Rattle.polars_arrays_flat.specs.Row.{Row, Rows, Fields, Entry}
use Rattle.polars_arrays_nested.specs.AnyRows.{row, rows_from}
use Rattle.polars_arrays_nested.specs.Columns.{rows_at}
use Rattle.polars_arrays_nested.specs.DictKeys.{key_at, key_count}
use Rattle.polars_arrays_nested.specs.ListOffsets.{list_count, offset_at, span}
use Rattle.polars_arrays_nested.specs.Parts.{columns, dictionary_keys, dictionary_values}
use Rattle.polars_arrays_nested.specs.Parts.{fixed_values, fixed_width, list_offsets, list_values}
use Rattle.polars_arrays_nested.specs.declared.dictionary.DictionaryArray.{DictionaryArray}
use Rattle.polars_arrays_nested.specs.declared.fixed_size_list.FixedSizeListArray.{
  FixedSizeListArray,
}
use Rattle.polars_arrays_nested.specs.declared.list.ListArray.{ListArray}
use Rattle.polars_arrays_nested.specs.declared.struct_array.StructArray.{StructArray}

-- the n rows f 0, f 1 and so on
abbrev pub listed : (ℕ → Row) → ℕ → List Row
listed f n = map f (range_with_len 0 n)

-- list i: the items between its two offsets
abbrev pub stored_list : ListArray → ℕ → Row
stored_list a i =
    Rows (rows_from (row (list_values a)) (offset_at (list_offsets a) i) (span (list_offsets a) i))

-- all lists
abbrev pub stored_lists : ListArray → List Row
stored_lists a = listed (stored_list a) (list_count (list_offsets a))

-- list i of one width: the `width` items from width * i on
abbrev pub stored_fixed_list : FixedSizeListArray → ℕ → Row
stored_fixed_list a i = Rows (rows_from (row (fixed_values a)) (fixed_width a * i) (fixed_width a))

-- all lists of one width
abbrev pub stored_fixed_lists : FixedSizeListArray → List Row
stored_fixed_lists a = listed (stored_fixed_list a) a.len

-- struct i: the rows of all columns at that place
abbrev pub stored_struct : StructArray → ℕ → Row
stored_struct a i = Fields (rows_at (columns a) i)

-- all structs
abbrev pub stored_structs : StructArray → List Row
stored_structs a = listed (stored_struct a) a.len

-- row i of a dictionary array: the entry that its key names
abbrev pub stored_entry : DictionaryArray → ℕ → Row
stored_entry a i = Entry (row (dictionary_values a) (key_at (dictionary_keys a) i))

-- all rows of a dictionary array
abbrev pub stored_entries : DictionaryArray → List Row
stored_entries a = listed (stored_entry a) (key_count (dictionary_keys a))
