-- Fields, with a name and a type, of arrays that structs are made of.
use denote.RawPtr.{null_ptr}
use Rattle.std.proofs.Common.{◌≡◌, ◌<◌, ◌^◌, ℕ, List, length, refl, sym, ap, arith}
use Rattle.std.proofs.lemmas.Grind.{merely}
use Rattle.std.specs.Str.{IsUtf8}
use Rattle.std.specs.declared.alloc.Global.{Global}
use Rattle.std.specs.declared.vec.Vec.{Vec}
use Rattle.std.specs.declared.string.String.{String}
use Rattle.polars_arrays_flat.specs.DataType.{kind_of}
use Rattle.polars_arrays_flat.specs.DataTypeLaws.{kind_of-struct}
use Rattle.polars_arrays_flat.specs.Kind.{DictionaryKind, FixedSizeListKind, LargeListKind, ListKind}
use Rattle.polars_arrays_flat.specs.declared.data_type.ArrowDataType.{ArrowDataType}
use Rattle.polars_arrays_flat.specs.declared.data_type.ArrowDataType as types
use Rattle.polars_arrays_flat.specs.declared.data_type.Field.{Field}
use Rattle.polars_arrays_nested.specs.DictKeys.{key_type, kind_of_keys}
use Rattle.polars_arrays_nested.specs.Types.{type_of}
use Rattle.polars_arrays_nested.specs.declared.any_array.AnyArray.{AnyArray, Null, Boolean, Int8, Int16, Int32, Int64, Int128, UInt8, UInt16, UInt32, UInt64, UInt128, Binary, LargeBinary, Utf8, LargeUtf8, BinaryView, Utf8View, FixedSizeBinary, List', FixedSizeList', Struct', Dictionary'}
use Rattle.polars_arrays_nested.specs.declared.list_offsets.ListOffsets.TheVariants.{Small, Large}

-- ---- vectors and texts

abbrev pub vector : {A : Type 0} (xs : List A) → length xs < 2 ^ 63 → Vec A Global
vector xs short = record { ptr = null_ptr; len = length xs; cap = length xs; alloc = record { memory = record { seal = tt } }; items = xs; ok = (refl, omega arith); small = short }

abbrev pub text : (bs : List ℕ) → IsUtf8 bs → length bs < 2 ^ 63 → String Global
text bs utf8 short = record { bytes = vector bs short; ok = merely utf8 }

-- ---- types

-- a type of data that is the type of an array
pub record HasType (a : AnyArray) : Type 0 where
  pub dtype : ArrowDataType
  pub is : type_of a ≡ kind_of dtype

pub array-type : (a : AnyArray) → HasType a
array-type (Null a) = record { dtype = types.Null; is = refl }
array-type (Boolean a) = record { dtype = types.Boolean; is = refl }
array-type (Int8 a) = record { dtype = types.Int8; is = refl }
array-type (Int16 a) = record { dtype = types.Int16; is = refl }
array-type (Int32 a) = record { dtype = types.Int32; is = refl }
array-type (Int64 a) = record { dtype = types.Int64; is = refl }
array-type (Int128 a) = record { dtype = types.Int128; is = refl }
array-type (UInt8 a) = record { dtype = types.UInt8; is = refl }
array-type (UInt16 a) = record { dtype = types.UInt16; is = refl }
array-type (UInt32 a) = record { dtype = types.UInt32; is = refl }
array-type (UInt64 a) = record { dtype = types.UInt64; is = refl }
array-type (UInt128 a) = record { dtype = types.UInt128; is = refl }
array-type (Binary a) = record { dtype = types.Binary; is = refl }
array-type (LargeBinary a) = record { dtype = types.LargeBinary; is = refl }
array-type (Utf8 a) = record { dtype = types.Utf8; is = refl }
array-type (LargeUtf8 a) = record { dtype = types.LargeUtf8; is = refl }
array-type (BinaryView a) = record { dtype = types.BinaryView; is = refl }
array-type (Utf8View a) = record { dtype = types.Utf8View; is = refl }
array-type (FixedSizeBinary a) = record { dtype = types.FixedSizeBinary a.size; is = refl }
array-type (List' (Small offsets) p values validity) =
    let item = array-type values in
    record { dtype = types.List (record { ptr = p.ptr; alloc = p.alloc; value = item.dtype }); is = ap (λ k. ListKind k) item.is }
array-type (List' (Large offsets) p values validity) =
    let item = array-type values in
    record { dtype = types.LargeList (record { ptr = p.ptr; alloc = p.alloc; value = item.dtype }); is = ap (λ k. LargeListKind k) item.is }
array-type (FixedSizeList' width len p values validity) =
    let item = array-type values in
    record { dtype = types.FixedSizeList (record { ptr = p.ptr; alloc = p.alloc; value = item.dtype }) width; is = ap (λ k. FixedSizeListKind k width) item.is }
array-type (Struct' fields len p values validity) = record { dtype = types.Struct fields; is = sym (kind_of-struct fields) }
array-type (Dictionary' keys p values) =
    let item = array-type values in
    record { dtype = types.Dictionary (key_type keys) (record { ptr = p.ptr; alloc = p.alloc; value = item.dtype }); is = ap (λ k. DictionaryKind (kind_of_keys keys) k) item.is }

-- ---- fields

abbrev pub field : (name : List ℕ) → IsUtf8 name → length name < 2 ^ 63 → (a : AnyArray) → Field
field name utf8 short a = record { name = text name utf8 short; dtype = (array-type a).dtype }
