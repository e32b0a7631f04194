-- The parts of nested arrays, as the functions that borrow them return them.
use Rattle.std.specs.Prelude.{ℕ, Bool, List, Option}
use Rattle.polars_arrays_flat.specs.declared.data_type.Field.{Field}
use Rattle.polars_arrays_nested.specs.declared.any_array.AnyArray.{AnyArray}
use Rattle.polars_arrays_nested.specs.declared.dict_keys.DictKeys.{DictKeys}
use Rattle.polars_arrays_nested.specs.declared.dictionary.DictionaryArray.{DictionaryArray}
use Rattle.polars_arrays_nested.specs.declared.fixed_size_list.FixedSizeListArray.{
  FixedSizeListArray,
}
use Rattle.polars_arrays_nested.specs.declared.list.ListArray.{ListArray}
use Rattle.polars_arrays_nested.specs.declared.list_offsets.ListOffsets.{ListOffsets}
use Rattle.polars_arrays_nested.specs.declared.struct_array.StructArray.{StructArray}

-- the offsets of lists
abbrev pub list_offsets : ListArray → ListOffsets
list_offsets a = a.offsets

-- the items of lists, including items of no list
abbrev pub list_values : ListArray → AnyArray
list_values a = a.values.value

-- the validity of lists
abbrev pub list_validity : ListArray → Option (List Bool)
list_validity a = a.validity

-- the number of items of each list
abbrev pub fixed_width : FixedSizeListArray → ℕ
fixed_width a = a.width

-- the items of all lists of one width
abbrev pub fixed_values : FixedSizeListArray → AnyArray
fixed_values a = a.values.value

-- the validity of lists of one width
abbrev pub fixed_validity : FixedSizeListArray → Option (List Bool)
fixed_validity a = a.validity

-- the names and types of a struct's columns
abbrev pub struct_fields : StructArray → List Field
struct_fields a = a.fields.items

-- the arrays of a struct's fields
abbrev pub columns : StructArray → List AnyArray
columns a = a.values.items

-- the validity of a struct
abbrev pub struct_validity : StructArray → Option (List Bool)
struct_validity a = a.validity

-- the keys of a dictionary array
abbrev pub dictionary_keys : DictionaryArray → DictKeys
dictionary_keys a = a.keys

-- the entries of a dictionary array
abbrev pub dictionary_values : DictionaryArray → AnyArray
dictionary_values a = a.values.value
