-- The kind (`Kind`) of an `ArrowDataType`, and of an `IntegerType`.
use Rattle.std.specs.Prelude.{◌≡◌, List, [], ◌∷◌, string_bytes}
use Rattle.polars_arrays_flat.specs.Kind.{Kind, NullKind, BooleanKind, Int8Kind, Int16Kind}
use Rattle.polars_arrays_flat.specs.Kind.{Int32Kind, Int64Kind, Int128Kind, UInt8Kind, UInt16Kind}
use Rattle.polars_arrays_flat.specs.Kind.{UInt32Kind, UInt64Kind, UInt128Kind, BinaryKind}
use Rattle.polars_arrays_flat.specs.Kind.{LargeBinaryKind, Utf8Kind, LargeUtf8Kind, BinaryViewKind}
use Rattle.polars_arrays_flat.specs.Kind.{Utf8ViewKind, FixedSizeBinaryKind, ListKind}
use Rattle.polars_arrays_flat.specs.Kind.{LargeListKind, FixedSizeListKind, StructKind}
use Rattle.polars_arrays_flat.specs.Kind.{DictionaryKind, NamedKinds, no_kinds, more_kinds}
use Rattle.polars_arrays_flat.specs.declared.data_type.IntegerType.{IntegerType}
use Rattle.polars_arrays_flat.specs.declared.data_type.IntegerType.TheVariants as key
use Rattle.polars_arrays_flat.specs.declared.data_type.ArrowDataType.{ArrowDataType, Null, Boolean}
use Rattle.polars_arrays_flat.specs.declared.data_type.ArrowDataType.{Int8, Int16, Int32, Int64}
use Rattle.polars_arrays_flat.specs.declared.data_type.ArrowDataType.{Int128, UInt8, UInt16, UInt32}
use Rattle.polars_arrays_flat.specs.declared.data_type.ArrowDataType.{UInt64, UInt128, Binary}
use Rattle.polars_arrays_flat.specs.declared.data_type.ArrowDataType.{LargeBinary, Utf8, LargeUtf8}
use Rattle.polars_arrays_flat.specs.declared.data_type.ArrowDataType.{BinaryView, Utf8View}
use Rattle.polars_arrays_flat.specs.declared.data_type.ArrowDataType.{FixedSizeBinary, List'}
use Rattle.polars_arrays_flat.specs.declared.data_type.ArrowDataType.{LargeList', FixedSizeList'}
use Rattle.polars_arrays_flat.specs.declared.data_type.ArrowDataType.{Struct', Dictionary'}
use Rattle.polars_arrays_flat.specs.declared.data_type.ArrowDataType.{Row_of-Field, end_of-Field}
use Rattle.polars_arrays_flat.specs.declared.data_type.ArrowDataType.{more_of-Field}
use Rattle.polars_arrays_flat.specs.declared.data_type.Field.{Field}

-- the kind of keys of this type
abbrev pub key_kind : IntegerType → Kind
key_kind key.Int8 = Int8Kind
key_kind key.Int16 = Int16Kind
key_kind key.Int32 = Int32Kind
key_kind key.Int64 = Int64Kind
key_kind key.UInt8 = UInt8Kind
key_kind key.UInt16 = UInt16Kind
key_kind key.UInt32 = UInt32Kind
key_kind key.UInt64 = UInt64Kind

abbrev mutual
  -- the kind of a type
  pub kind_of : ArrowDataType → Kind
  kind_of Null = NullKind
  kind_of Boolean = BooleanKind
  kind_of Int8 = Int8Kind
  kind_of Int16 = Int16Kind
  kind_of Int32 = Int32Kind
  kind_of Int64 = Int64Kind
  kind_of Int128 = Int128Kind
  kind_of UInt8 = UInt8Kind
  kind_of UInt16 = UInt16Kind
  kind_of UInt32 = UInt32Kind
  kind_of UInt64 = UInt64Kind
  kind_of UInt128 = UInt128Kind
  kind_of Binary = BinaryKind
  kind_of LargeBinary = LargeBinaryKind
  kind_of Utf8 = Utf8Kind
  kind_of LargeUtf8 = LargeUtf8Kind
  kind_of BinaryView = BinaryViewKind
  kind_of Utf8View = Utf8ViewKind
  kind_of (FixedSizeBinary size) = FixedSizeBinaryKind size
  kind_of (List' place item) = ListKind (kind_of item)
  kind_of (LargeList' place item) = LargeListKind (kind_of item)
  kind_of (FixedSizeList' place item width) = FixedSizeListKind (kind_of item) width
  kind_of (Struct' shape fields) = StructKind (kinds_in fields)
  kind_of (Dictionary' keys place entry) = DictionaryKind (key_kind keys) (kind_of entry)

  -- the names and kinds of the fields inside a type
  pub kinds_in : {m : _} → Row_of-Field m → NamedKinds
  kinds_in end_of-Field = no_kinds
  kinds_in (more_of-Field name dtype rest) =
      more_kinds (string_bytes name) (kind_of dtype) (kinds_in rest)

-- the names and kinds of fields
abbrev pub kinds_of : List Field → NamedKinds
kinds_of [] = no_kinds
kinds_of (field ∷ rest) = more_kinds (string_bytes field.name) (kind_of field.dtype) (kinds_of rest)

-- equal names, byte for byte, and equal kinds
pub record IsSameField (f g : Field) : Type 0 where
  pub name : string_bytes f.name ≡ string_bytes g.name
  pub kind : kind_of f.dtype ≡ kind_of g.dtype
