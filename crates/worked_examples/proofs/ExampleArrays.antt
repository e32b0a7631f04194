-- Arrays of the worked examples.
use Rattle.std.specs.Prelude.{ℕ, ℤ, Bool, true, List, Option}
use Rattle.polars_arrays_nested.specs.declared.any_array.AnyArray.{AnyArray, Int32}
use Rattle.polars_arrays_nested.specs.declared.dict_keys.DictKeys.{DictKeys}
use Rattle.polars_arrays_nested.specs.declared.dict_keys.DictKeys.TheVariants.{UInt8}
use Rattle.polars_arrays_nested.specs.declared.list_offsets.ListOffsets.{ListOffsets}
use Rattle.polars_arrays_nested.specs.declared.list_offsets.ListOffsets.TheVariants.{Small}

-- stored numbers of 32 bits, and which of them are present
abbrev pub numbers : List ℤ → Option (List Bool) → AnyArray
numbers values validity = Int32 (record { values = values; validity = validity; owned = true })

-- the offsets between lists
abbrev pub offsets : List ℤ → ListOffsets
offsets places = Small (record { items = places; owned = true })

-- stored keys of a dictionary, and which of them are present
abbrev pub keys : List ℕ → Option (List Bool) → DictKeys
keys places validity = UInt8 (record { values = places; validity = validity; owned = true })
