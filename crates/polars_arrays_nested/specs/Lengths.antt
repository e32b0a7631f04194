-- The length of any array, and its validity.
use Rattle.std.specs.Prelude.{ℕ, Bool, List, Option, None, length}
use Rattle.polars_arrays_bytes.specs.OffsetStrings.{row_count}
use Rattle.polars_arrays_nested.specs.DictKeys.{key_count, key_validity}
use Rattle.polars_arrays_nested.specs.ListOffsets.{list_count}
use Rattle.polars_arrays_nested.specs.declared.any_array.AnyArray.{AnyArray, Null, Boolean, Int8}
use Rattle.polars_arrays_nested.specs.declared.any_array.AnyArray.{Int16, Int32, Int64, Int128}
use Rattle.polars_arrays_nested.specs.declared.any_array.AnyArray.{UInt8, UInt16, UInt32, UInt64}
use Rattle.polars_arrays_nested.specs.declared.any_array.AnyArray.{UInt128, Binary, LargeBinary}
use Rattle.polars_arrays_nested.specs.declared.any_array.AnyArray.{Utf8, LargeUtf8, BinaryView}
use Rattle.polars_arrays_nested.specs.declared.any_array.AnyArray.{Utf8View, FixedSizeBinary, List'}
use Rattle.polars_arrays_nested.specs.declared.any_array.AnyArray.{FixedSizeList', Struct'}
use Rattle.polars_arrays_nested.specs.declared.any_array.AnyArray.{Dictionary'}

-- the number of rows of an array
abbrev pub len_of : AnyArray → ℕ
len_of (Null a) = a
len_of (Boolean a) = length a.values
len_of (Int8 a) = length a.values
len_of (Int16 a) = length a.values
len_of (Int32 a) = length a.values
len_of (Int64 a) = length a.values
len_of (Int128 a) = length a.values
len_of (UInt8 a) = length a.values
len_of (UInt16 a) = length a.values
len_of (UInt32 a) = length a.values
len_of (UInt64 a) = length a.values
len_of (UInt128 a) = length a.values
len_of (Binary a) = row_count a.offsets
len_of (LargeBinary a) = row_count a.offsets
len_of (Utf8 a) = row_count a.offsets
len_of (LargeUtf8 a) = row_count a.offsets
len_of (BinaryView a) = length a.views
len_of (Utf8View a) = length a.views
len_of (FixedSizeBinary a) = a.count
len_of (List' offsets p values validity) = list_count offsets
len_of (FixedSizeList' width len p values validity) = len
len_of (Struct' fields len p values validity) = len
len_of (Dictionary' keys p values) = key_count keys

-- the validity of an array; a dictionary's is its keys', and a null array has none (our own choice)
abbrev pub validity_of : AnyArray → Option (List Bool)
validity_of (Null a) = None
validity_of (Boolean a) = a.validity
validity_of (Int8 a) = a.validity
validity_of (Int16 a) = a.validity
validity_of (Int32 a) = a.validity
validity_of (Int64 a) = a.validity
validity_of (Int128 a) = a.validity
validity_of (UInt8 a) = a.validity
validity_of (UInt16 a) = a.validity
validity_of (UInt32 a) = a.validity
validity_of (UInt64 a) = a.validity
validity_of (UInt128 a) = a.validity
validity_of (Binary a) = a.validity
validity_of (LargeBinary a) = a.validity
validity_of (Utf8 a) = a.validity
validity_of (LargeUtf8 a) = a.validity
validity_of (BinaryView a) = a.validity
validity_of (Utf8View a) = a.validity
validity_of (FixedSizeBinary a) = a.validity
validity_of (List' offsets p values validity) = validity
validity_of (FixedSizeList' width len p values validity) = validity
validity_of (Struct' fields len p values validity) = validity
validity_of (Dictionary' keys p values) = key_validity keys
