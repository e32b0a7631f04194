-- Which kinds of array hold no arrays.
use Rattle.std.proofs.Common.{◌≡◌, ◌∙◌, IsTrue, refl, sym, ap}
use Rattle.polars_arrays_nested.specs.Flat.{is_flat}
use Rattle.polars_arrays_nested.specs.declared.any_array.AnyArray.{AnyArray, Null, Boolean, Int8, Int16, Int32, Int64, Int128, UInt8, UInt16, UInt32, UInt64, UInt128, Binary, LargeBinary, Utf8, LargeUtf8, BinaryView, Utf8View, FixedSizeBinary, List, FixedSizeList, Struct, Dictionary, List', FixedSizeList', Struct', Dictionary', roll-AnyArray, roll-out-AnyArray}
use Rattle.polars_arrays_nested.specs.declared.any_array.AnyArray.TheVariants.{outs-Struct', rolls-Struct}
use Rattle.polars_arrays_nested.specs.declared.any_array.AnyArray.TheBlock.{shown-the_row-AnyArray-0}
use Rattle.polars_arrays_nested.specs.declared.struct_array.StructArray.{StructArray}

-- an array that is none of those that hold arrays is flat
pub flat_case : (x : AnyArray) → ((a : _) → x ≡ List a → ⊥) → ((a : _) → x ≡ FixedSizeList a → ⊥) → ((a : _) → x ≡ Struct a → ⊥) → ((a : _) → x ≡ Dictionary a → ⊥) → IsTrue (is_flat x)
flat_case (List' offsets p values v) list fixed struct dictionary =
    absurd (list (record { offsets = offsets; values = record { ptr = p.ptr; alloc = p.alloc; value = values }; validity = v }) refl)
flat_case (FixedSizeList' width len p values v) list fixed struct dictionary =
    absurd (fixed (record { width = width; len = len; values = record { ptr = p.ptr; alloc = p.alloc; value = values }; validity = v }) refl)
flat_case (Struct' fields len p all v) list fixed struct dictionary =
    let s : StructArray = record { fields = fields; len = len; values = shown-the_row-AnyArray-0 p all; validity = v } in
    absurd (struct s (sym (roll-out-AnyArray (Struct' fields len p all v)) ∙ ap roll-AnyArray (outs-Struct' fields len p all v) ∙ rolls-Struct s))
flat_case (Dictionary' keys p values) list fixed struct dictionary =
    absurd (dictionary (record { keys = keys; values = record { ptr = p.ptr; alloc = p.alloc; value = values } }) refl)
flat_case _ list fixed struct dictionary = refl

-- a flat array is of one of these kinds
pub kind_case : (x : AnyArray) → IsTrue (is_flat x) → ((a : _) → x ≡ Null a → ⊥) → ((a : _) → x ≡ Boolean a → ⊥) → ((a : _) → x ≡ Int8 a → ⊥) → ((a : _) → x ≡ Int16 a → ⊥) → ((a : _) → x ≡ Int32 a → ⊥) → ((a : _) → x ≡ Int64 a → ⊥) → ((a : _) → x ≡ Int128 a → ⊥) → ((a : _) → x ≡ UInt8 a → ⊥) → ((a : _) → x ≡ UInt16 a → ⊥) → ((a : _) → x ≡ UInt32 a → ⊥) → ((a : _) → x ≡ UInt64 a → ⊥) → ((a : _) → x ≡ UInt128 a → ⊥) → ((a : _) → x ≡ Binary a → ⊥) → ((a : _) → x ≡ LargeBinary a → ⊥) → ((a : _) → x ≡ Utf8 a → ⊥) → ((a : _) → x ≡ LargeUtf8 a → ⊥) → ((a : _) → x ≡ BinaryView a → ⊥) → ((a : _) → x ≡ Utf8View a → ⊥) → ((a : _) → x ≡ FixedSizeBinary a → ⊥) → ⊥
kind_case (Null a) flat null boolean int8 int16 int32 int64 int128 uint8 uint16 uint32 uint64 uint128 binary large_binary utf8 large_utf8 binary_view utf8_view fixed_size_binary = null a refl
kind_case (Boolean a) flat null boolean int8 int16 int32 int64 int128 uint8 uint16 uint32 uint64 uint128 binary large_binary utf8 large_utf8 binary_view utf8_view fixed_size_binary = boolean a refl
kind_case (Int8 a) flat null boolean int8 int16 int32 int64 int128 uint8 uint16 uint32 uint64 uint128 binary large_binary utf8 large_utf8 binary_view utf8_view fixed_size_binary = int8 a refl
kind_case (Int16 a) flat null boolean int8 int16 int32 int64 int128 uint8 uint16 uint32 uint64 uint128 binary large_binary utf8 large_utf8 binary_view utf8_view fixed_size_binary = int16 a refl
kind_case (Int32 a) flat null boolean int8 int16 int32 int64 int128 uint8 uint16 uint32 uint64 uint128 binary large_binary utf8 large_utf8 binary_view utf8_view fixed_size_binary = int32 a refl
kind_case (Int64 a) flat null boolean int8 int16 int32 int64 int128 uint8 uint16 uint32 uint64 uint128 binary large_binary utf8 large_utf8 binary_view utf8_view fixed_size_binary = int64 a refl
kind_case (Int128 a) flat null boolean int8 int16 int32 int64 int128 uint8 uint16 uint32 uint64 uint128 binary large_binary utf8 large_utf8 binary_view utf8_view fixed_size_binary = int128 a refl
kind_case (UInt8 a) flat null boolean int8 int16 int32 int64 int128 uint8 uint16 uint32 uint64 uint128 binary large_binary utf8 large_utf8 binary_view utf8_view fixed_size_binary = uint8 a refl
kind_case (UInt16 a) flat null boolean int8 int16 int32 int64 int128 uint8 uint16 uint32 uint64 uint128 binary large_binary utf8 large_utf8 binary_view utf8_view fixed_size_binary = uint16 a refl
kind_case (UInt32 a) flat null boolean int8 int16 int32 int64 int128 uint8 uint16 uint32 uint64 uint128 binary large_binary utf8 large_utf8 binary_view utf8_view fixed_size_binary = uint32 a refl
kind_case (UInt64 a) flat null boolean int8 int16 int32 int64 int128 uint8 uint16 uint32 uint64 uint128 binary large_binary utf8 large_utf8 binary_view utf8_view fixed_size_binary = uint64 a refl
kind_case (UInt128 a) flat null boolean int8 int16 int32 int64 int128 uint8 uint16 uint32 uint64 uint128 binary large_binary utf8 large_utf8 binary_view utf8_view fixed_size_binary = uint128 a refl
kind_case (Binary a) flat null boolean int8 int16 int32 int64 int128 uint8 uint16 uint32 uint64 uint128 binary large_binary utf8 large_utf8 binary_view utf8_view fixed_size_binary = binary a refl
kind_case (LargeBinary a) flat null boolean int8 int16 int32 int64 int128 uint8 uint16 uint32 uint64 uint128 binary large_binary utf8 large_utf8 binary_view utf8_view fixed_size_binary = large_binary a refl
kind_case (Utf8 a) flat null boolean int8 int16 int32 int64 int128 uint8 uint16 uint32 uint64 uint128 binary large_binary utf8 large_utf8 binary_view utf8_view fixed_size_binary = utf8 a refl
kind_case (LargeUtf8 a) flat null boolean int8 int16 int32 int64 int128 uint8 uint16 uint32 uint64 uint128 binary large_binary utf8 large_utf8 binary_view utf8_view fixed_size_binary = large_utf8 a refl
kind_case (BinaryView a) flat null boolean int8 int16 int32 int64 int128 uint8 uint16 uint32 uint64 uint128 binary large_binary utf8 large_utf8 binary_view utf8_view fixed_size_binary = binary_view a refl
kind_case (Utf8View a) flat null boolean int8 int16 int32 int64 int128 uint8 uint16 uint32 uint64 uint128 binary large_binary utf8 large_utf8 binary_view utf8_view fixed_size_binary = utf8_view a refl
kind_case (FixedSizeBinary a) flat null boolean int8 int16 int32 int64 int128 uint8 uint16 uint32 uint64 uint128 binary large_binary utf8 large_utf8 binary_view utf8_view fixed_size_binary = fixed_size_binary a refl
kind_case _ flat null boolean int8 int16 int32 int64 int128 uint8 uint16 uint32 uint64 uint128 binary large_binary utf8 large_utf8 binary_view utf8_view fixed_size_binary = cc

pub ruleset flat = (flat_case, kind_case)
