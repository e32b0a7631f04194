-- The type of any array.
use Rattle.polars_arrays_flat.specs.DataType.{kinds_of}
use Rattle.polars_arrays_flat.specs.Kind.{Kind, NullKind, BooleanKind, Int8Kind, Int16Kind}
use Rattle.polars_arrays_flat.specs.Kind.{Int32Kind, Int64Kind, Int128Kind, UInt8Kind, UInt16Kind}
use Rattle.polars_arrays_flat.specs.Kind.{UInt32Kind, UInt64Kind, UInt128Kind, BinaryKind}
use Rattle.polars_arrays_flat.specs.Kind.{LargeBinaryKind, Utf8Kind, LargeUtf8Kind, BinaryViewKind}
use Rattle.polars_arrays_flat.specs.Kind.{Utf8ViewKind, FixedSizeBinaryKind, ListKind}
use Rattle.polars_arrays_flat.specs.Kind.{LargeListKind, FixedSizeListKind, StructKind}
use Rattle.polars_arrays_flat.specs.Kind.{DictionaryKind}
use Rattle.polars_arrays_nested.specs.DictKeys.{kind_of_keys}
use Rattle.polars_arrays_nested.specs.declared.any_array.AnyArray.{AnyArray, Null, Boolean, Int8}
use Rattle.polars_arrays_nested.specs.declared.any_array.AnyArray.{Int16, Int32, Int64, Int128}
use Rattle.polars_arrays_nested.specs.declared.any_array.AnyArray.{UInt8, UInt16, UInt32, UInt64}
use Rattle.polars_arrays_nested.specs.declared.any_array.AnyArray.{UInt128, Binary, LargeBinary}
use Rattle.polars_arrays_nested.specs.declared.any_array.AnyArray.{Utf8, LargeUtf8, BinaryView}
use Rattle.polars_arrays_nested.specs.declared.any_array.AnyArray.{Utf8View, FixedSizeBinary, List'}
use Rattle.polars_arrays_nested.specs.declared.any_array.AnyArray.{FixedSizeList', Struct'}
use Rattle.polars_arrays_nested.specs.declared.any_array.AnyArray.{Dictionary'}
use Rattle.polars_arrays_nested.specs.declared.list_offsets.ListOffsets.{ListOffsets}
use Rattle.polars_arrays_nested.specs.declared.list_offsets.ListOffsets.TheVariants.{Small, Large}

-- the kind of an array of lists with these offsets, and items of the kind `item`
abbrev pub kind_of_lists : ListOffsets → Kind → Kind
kind_of_lists (Small offsets) item = ListKind item
kind_of_lists (Large offsets) item = LargeListKind item

-- the type of an array; a struct's is made of its fields
abbrev pub type_of : AnyArray → Kind
type_of (Null a) = NullKind
type_of (Boolean a) = BooleanKind
type_of (Int8 a) = Int8Kind
type_of (Int16 a) = Int16Kind
type_of (Int32 a) = Int32Kind
type_of (Int64 a) = Int64Kind
type_of (Int128 a) = Int128Kind
type_of (UInt8 a) = UInt8Kind
type_of (UInt16 a) = UInt16Kind
type_of (UInt32 a) = UInt32Kind
type_of (UInt64 a) = UInt64Kind
type_of (UInt128 a) = UInt128Kind
type_of (Binary a) = BinaryKind
type_of (LargeBinary a) = LargeBinaryKind
type_of (Utf8 a) = Utf8Kind
type_of (LargeUtf8 a) = LargeUtf8Kind
type_of (BinaryView a) = BinaryViewKind
type_of (Utf8View a) = Utf8ViewKind
type_of (FixedSizeBinary a) = FixedSizeBinaryKind a.size
type_of (List' offsets p values validity) = kind_of_lists offsets (type_of values)
type_of (FixedSizeList' width len p values validity) = FixedSizeListKind (type_of values) width
type_of (Struct' fields len p values validity) = StructKind (kinds_of fields.items)
type_of (Dictionary' keys p values) = DictionaryKind (kind_of_keys keys) (type_of values)
