-- Which variant an array of a type is.
use Rattle.std.proofs.Common.{◌≡◌, IsTrue, refl, sym, ap, ◌∙◌}
use Rattle.polars_arrays_flat.specs.Kind.{BooleanKind, Int8Kind, Int16Kind, Int32Kind, Int64Kind, Int128Kind, UInt8Kind, UInt16Kind, UInt32Kind, UInt64Kind, UInt128Kind, BinaryKind, LargeBinaryKind, Utf8Kind, LargeUtf8Kind, BinaryViewKind, Utf8ViewKind}
use Rattle.polars_arrays_nested.specs.Types.{type_of}
use Rattle.polars_arrays_nested.specs.declared.any_array.AnyArray.{AnyArray, Boolean, Int8, Int16, Int32, Int64, Int128, UInt8, UInt16, UInt32, UInt64, UInt128, Binary, LargeBinary, Utf8, LargeUtf8, BinaryView, Utf8View, FixedSizeBinary, FixedSizeList, Struct, Dictionary, List', FixedSizeList', Struct', Dictionary', roll-AnyArray, roll-out-AnyArray}
use Rattle.polars_arrays_nested.specs.declared.any_array.AnyArray.{List as Lists}
use Rattle.polars_arrays_nested.specs.declared.any_array.AnyArray.TheVariants.{outs-Struct', rolls-Struct}
use Rattle.polars_arrays_nested.specs.declared.any_array.AnyArray.TheBlock.{shown-the_row-AnyArray-0}
use Rattle.polars_arrays_nested.specs.declared.list.ListArray.{ListArray}
use Rattle.polars_arrays_nested.specs.declared.list_offsets.ListOffsets.TheVariants.{Small, Large}
use Rattle.polars_arrays_nested.specs.declared.struct_array.StructArray.{StructArray}
use Rattle.polars_compare_nested.specs.KindSorts.{is_sized, is_list, is_fixed_list, is_struct, is_dictionary}
use Rattle.polars_compare_nested.specs.Leaf.{is_leaf}

pub boolean_case : (x : AnyArray) → type_of x ≡ BooleanKind → ((a : _) → x ≡ Boolean a → ⊥) → ⊥
boolean_case (Boolean a) t other = other a refl
boolean_case (List' (Small o) p values mask) t other = cc
boolean_case (List' (Large o) p values mask) t other = cc
boolean_case _ t other = cc

pub int8_case : (x : AnyArray) → type_of x ≡ Int8Kind → ((a : _) → x ≡ Int8 a → ⊥) → ⊥
int8_case (Int8 a) t other = other a refl
int8_case (List' (Small o) p values mask) t other = cc
int8_case (List' (Large o) p values mask) t other = cc
int8_case _ t other = cc

pub int16_case : (x : AnyArray) → type_of x ≡ Int16Kind → ((a : _) → x ≡ Int16 a → ⊥) → ⊥
int16_case (Int16 a) t other = other a refl
int16_case (List' (Small o) p values mask) t other = cc
int16_case (List' (Large o) p values mask) t other = cc
int16_case _ t other = cc

pub int32_case : (x : AnyArray) → type_of x ≡ Int32Kind → ((a : _) → x ≡ Int32 a → ⊥) → ⊥
int32_case (Int32 a) t other = other a refl
int32_case (List' (Small o) p values mask) t other = cc
int32_case (List' (Large o) p values mask) t other = cc
int32_case _ t other = cc

pub int64_case : (x : AnyArray) → type_of x ≡ Int64Kind → ((a : _) → x ≡ Int64 a → ⊥) → ⊥
int64_case (Int64 a) t other = other a refl
int64_case (List' (Small o) p values mask) t other = cc
int64_case (List' (Large o) p values mask) t other = cc
int64_case _ t other = cc

pub int128_case : (x : AnyArray) → type_of x ≡ Int128Kind → ((a : _) → x ≡ Int128 a → ⊥) → ⊥
int128_case (Int128 a) t other = other a refl
int128_case (List' (Small o) p values mask) t other = cc
int128_case (List' (Large o) p values mask) t other = cc
int128_case _ t other = cc

pub uint8_case : (x : AnyArray) → type_of x ≡ UInt8Kind → ((a : _) → x ≡ UInt8 a → ⊥) → ⊥
uint8_case (UInt8 a) t other = other a refl
uint8_case (List' (Small o) p values mask) t other = cc
uint8_case (List' (Large o) p values mask) t other = cc
uint8_case _ t other = cc

pub uint16_case : (x : AnyArray) → type_of x ≡ UInt16Kind → ((a : _) → x ≡ UInt16 a → ⊥) → ⊥
uint16_case (UInt16 a) t other = other a refl
uint16_case (List' (Small o) p values mask) t other = cc
uint16_case (List' (Large o) p values mask) t other = cc
uint16_case _ t other = cc

pub uint32_case : (x : AnyArray) → type_of x ≡ UInt32Kind → ((a : _) → x ≡ UInt32 a → ⊥) → ⊥
uint32_case (UInt32 a) t other = other a refl
uint32_case (List' (Small o) p values mask) t other = cc
uint32_case (List' (Large o) p values mask) t other = cc
uint32_case _ t other = cc

pub uint64_case : (x : AnyArray) → type_of x ≡ UInt64Kind → ((a : _) → x ≡ UInt64 a → ⊥) → ⊥
uint64_case (UInt64 a) t other = other a refl
uint64_case (List' (Small o) p values mask) t other = cc
uint64_case (List' (Large o) p values mask) t other = cc
uint64_case _ t other = cc

pub uint128_case : (x : AnyArray) → type_of x ≡ UInt128Kind → ((a : _) → x ≡ UInt128 a → ⊥) → ⊥
uint128_case (UInt128 a) t other = other a refl
uint128_case (List' (Small o) p values mask) t other = cc
uint128_case (List' (Large o) p values mask) t other = cc
uint128_case _ t other = cc

pub binary_case : (x : AnyArray) → type_of x ≡ BinaryKind → ((a : _) → x ≡ Binary a → ⊥) → ⊥
binary_case (Binary a) t other = other a refl
binary_case (List' (Small o) p values mask) t other = cc
binary_case (List' (Large o) p values mask) t other = cc
binary_case _ t other = cc

pub large_binary_case : (x : AnyArray) → type_of x ≡ LargeBinaryKind → ((a : _) → x ≡ LargeBinary a → ⊥) → ⊥
large_binary_case (LargeBinary a) t other = other a refl
large_binary_case (List' (Small o) p values mask) t other = cc
large_binary_case (List' (Large o) p values mask) t other = cc
large_binary_case _ t other = cc

pub utf8_case : (x : AnyArray) → type_of x ≡ Utf8Kind → ((a : _) → x ≡ Utf8 a → ⊥) → ⊥
utf8_case (Utf8 a) t other = other a refl
utf8_case (List' (Small o) p values mask) t other = cc
utf8_case (List' (Large o) p values mask) t other = cc
utf8_case _ t other = cc

pub large_utf8_case : (x : AnyArray) → type_of x ≡ LargeUtf8Kind → ((a : _) → x ≡ LargeUtf8 a → ⊥) → ⊥
large_utf8_case (LargeUtf8 a) t other = other a refl
large_utf8_case (List' (Small o) p values mask) t other = cc
large_utf8_case (List' (Large o) p values mask) t other = cc
large_utf8_case _ t other = cc

pub binary_view_case : (x : AnyArray) → type_of x ≡ BinaryViewKind → ((a : _) → x ≡ BinaryView a → ⊥) → ⊥
binary_view_case (BinaryView a) t other = other a refl
binary_view_case (List' (Small o) p values mask) t other = cc
binary_view_case (List' (Large o) p values mask) t other = cc
binary_view_case _ t other = cc

pub utf8_view_case : (x : AnyArray) → type_of x ≡ Utf8ViewKind → ((a : _) → x ≡ Utf8View a → ⊥) → ⊥
utf8_view_case (Utf8View a) t other = other a refl
utf8_view_case (List' (Small o) p values mask) t other = cc
utf8_view_case (List' (Large o) p values mask) t other = cc
utf8_view_case _ t other = cc

pub fixed_size_binary_case : (x : AnyArray) → IsTrue (is_sized (type_of x)) → ((a : _) → x ≡ FixedSizeBinary a → ⊥) → ⊥
fixed_size_binary_case (FixedSizeBinary a) t other = other a refl
fixed_size_binary_case (List' (Small o) p values mask) t other = cc
fixed_size_binary_case (List' (Large o) p values mask) t other = cc
fixed_size_binary_case _ t other = cc

pub list_case : (x : AnyArray) → IsTrue (is_list (type_of x)) → ((a : _) → x ≡ Lists a → ⊥) → ⊥
list_case (List' offsets p values mask) t other = other (record { offsets = offsets; values = record { ptr = p.ptr; alloc = p.alloc; value = values }; validity = mask }) refl
list_case _ t other = cc

pub fixed_size_list_case : (x : AnyArray) → IsTrue (is_fixed_list (type_of x)) → ((a : _) → x ≡ FixedSizeList a → ⊥) → ⊥
fixed_size_list_case (FixedSizeList' width len p values mask) t other = other (record { width = width; len = len; values = record { ptr = p.ptr; alloc = p.alloc; value = values }; validity = mask }) refl
fixed_size_list_case (List' (Small o) p values mask) t other = cc
fixed_size_list_case (List' (Large o) p values mask) t other = cc
fixed_size_list_case _ t other = cc

pub struct_case : (x : AnyArray) → IsTrue (is_struct (type_of x)) → ((a : _) → x ≡ Struct a → ⊥) → ⊥
struct_case (Struct' fields len p all mask) t other =
    let s : StructArray = record { fields = fields; len = len; values = shown-the_row-AnyArray-0 p all; validity = mask } in
    other s (sym (roll-out-AnyArray (Struct' fields len p all mask)) ∙ ap roll-AnyArray (outs-Struct' fields len p all mask) ∙ rolls-Struct s)
struct_case (List' (Small o) p values mask) t other = cc
struct_case (List' (Large o) p values mask) t other = cc
struct_case _ t other = cc

pub dictionary_case : (x : AnyArray) → IsTrue (is_dictionary (type_of x)) → ((a : _) → x ≡ Dictionary a → ⊥) → ⊥
dictionary_case (Dictionary' keys p values) t other = other (record { keys = keys; values = record { ptr = p.ptr; alloc = p.alloc; value = values } }) refl
dictionary_case (List' (Small o) p values mask) t other = cc
dictionary_case (List' (Large o) p values mask) t other = cc
dictionary_case _ t other = cc

-- an array of lists has a type of lists
pub list_sort : (x : AnyArray) (a : ListArray) → x ≡ Lists a → IsTrue (is_list (type_of x))
list_sort (List' (Small o) p values mask) a e = refl
list_sort (List' (Large o) p values mask) a e = refl
list_sort _ a e = cc

-- an array of leaves is of one of their variants
pub leaves_case : (x : AnyArray) → IsTrue (is_leaf (type_of x))
    → ((a : _) → x ≡ Boolean a → ⊥)
    → ((a : _) → x ≡ Int8 a → ⊥)
    → ((a : _) → x ≡ Int16 a → ⊥)
    → ((a : _) → x ≡ Int32 a → ⊥)
    → ((a : _) → x ≡ Int64 a → ⊥)
    → ((a : _) → x ≡ Int128 a → ⊥)
    → ((a : _) → x ≡ UInt8 a → ⊥)
    → ((a : _) → x ≡ UInt16 a → ⊥)
    → ((a : _) → x ≡ UInt32 a → ⊥)
    → ((a : _) → x ≡ UInt64 a → ⊥)
    → ((a : _) → x ≡ UInt128 a → ⊥)
    → ((a : _) → x ≡ Binary a → ⊥)
    → ((a : _) → x ≡ LargeBinary a → ⊥)
    → ((a : _) → x ≡ Utf8 a → ⊥)
    → ((a : _) → x ≡ LargeUtf8 a → ⊥)
    → ((a : _) → x ≡ BinaryView a → ⊥)
    → ((a : _) → x ≡ Utf8View a → ⊥)
    → ((a : _) → x ≡ FixedSizeBinary a → ⊥)
    → ⊥
leaves_case (Boolean a) leaf boolean int8 int16 int32 int64 int128 uint8 uint16 uint32 uint64 uint128 binary large_binary utf8 large_utf8 binary_view utf8_view sized = boolean a refl
leaves_case (Int8 a) leaf boolean int8 int16 int32 int64 int128 uint8 uint16 uint32 uint64 uint128 binary large_binary utf8 large_utf8 binary_view utf8_view sized = int8 a refl
leaves_case (Int16 a) leaf boolean int8 int16 int32 int64 int128 uint8 uint16 uint32 uint64 uint128 binary large_binary utf8 large_utf8 binary_view utf8_view sized = int16 a refl
leaves_case (Int32 a) leaf boolean int8 int16 int32 int64 int128 uint8 uint16 uint32 uint64 uint128 binary large_binary utf8 large_utf8 binary_view utf8_view sized = int32 a refl
leaves_case (Int64 a) leaf boolean int8 int16 int32 int64 int128 uint8 uint16 uint32 uint64 uint128 binary large_binary utf8 large_utf8 binary_view utf8_view sized = int64 a refl
leaves_case (Int128 a) leaf boolean int8 int16 int32 int64 int128 uint8 uint16 uint32 uint64 uint128 binary large_binary utf8 large_utf8 binary_view utf8_view sized = int128 a refl
leaves_case (UInt8 a) leaf boolean int8 int16 int32 int64 int128 uint8 uint16 uint32 uint64 uint128 binary large_binary utf8 large_utf8 binary_view utf8_view sized = uint8 a refl
leaves_case (UInt16 a) leaf boolean int8 int16 int32 int64 int128 uint8 uint16 uint32 uint64 uint128 binary large_binary utf8 large_utf8 binary_view utf8_view sized = uint16 a refl
leaves_case (UInt32 a) leaf boolean int8 int16 int32 int64 int128 uint8 uint16 uint32 uint64 uint128 binary large_binary utf8 large_utf8 binary_view utf8_view sized = uint32 a refl
leaves_case (UInt64 a) leaf boolean int8 int16 int32 int64 int128 uint8 uint16 uint32 uint64 uint128 binary large_binary utf8 large_utf8 binary_view utf8_view sized = uint64 a refl
leaves_case (UInt128 a) leaf boolean int8 int16 int32 int64 int128 uint8 uint16 uint32 uint64 uint128 binary large_binary utf8 large_utf8 binary_view utf8_view sized = uint128 a refl
leaves_case (Binary a) leaf boolean int8 int16 int32 int64 int128 uint8 uint16 uint32 uint64 uint128 binary large_binary utf8 large_utf8 binary_view utf8_view sized = binary a refl
leaves_case (LargeBinary a) leaf boolean int8 int16 int32 int64 int128 uint8 uint16 uint32 uint64 uint128 binary large_binary utf8 large_utf8 binary_view utf8_view sized = large_binary a refl
leaves_case (Utf8 a) leaf boolean int8 int16 int32 int64 int128 uint8 uint16 uint32 uint64 uint128 binary large_binary utf8 large_utf8 binary_view utf8_view sized = utf8 a refl
leaves_case (LargeUtf8 a) leaf boolean int8 int16 int32 int64 int128 uint8 uint16 uint32 uint64 uint128 binary large_binary utf8 large_utf8 binary_view utf8_view sized = large_utf8 a refl
leaves_case (BinaryView a) leaf boolean int8 int16 int32 int64 int128 uint8 uint16 uint32 uint64 uint128 binary large_binary utf8 large_utf8 binary_view utf8_view sized = binary_view a refl
leaves_case (Utf8View a) leaf boolean int8 int16 int32 int64 int128 uint8 uint16 uint32 uint64 uint128 binary large_binary utf8 large_utf8 binary_view utf8_view sized = utf8_view a refl
leaves_case (FixedSizeBinary a) leaf boolean int8 int16 int32 int64 int128 uint8 uint16 uint32 uint64 uint128 binary large_binary utf8 large_utf8 binary_view utf8_view sized = sized a refl
leaves_case (List' (Small o) p values mask) leaf boolean int8 int16 int32 int64 int128 uint8 uint16 uint32 uint64 uint128 binary large_binary utf8 large_utf8 binary_view utf8_view sized = cc
leaves_case (List' (Large o) p values mask) leaf boolean int8 int16 int32 int64 int128 uint8 uint16 uint32 uint64 uint128 binary large_binary utf8 large_utf8 binary_view utf8_view sized = cc
leaves_case _ leaf boolean int8 int16 int32 int64 int128 uint8 uint16 uint32 uint64 uint128 binary large_binary utf8 large_utf8 binary_view utf8_view sized = cc

-- each rules out the arm that an array of its type does not take
pub ruleset cases = (boolean_case, int8_case, int16_case, int32_case, int64_case, int128_case, uint8_case, uint16_case, uint32_case, uint64_case, uint128_case, binary_case, large_binary_case, utf8_case, large_utf8_case, binary_view_case, utf8_view_case, fixed_size_binary_case, list_case, fixed_size_list_case, struct_case, dictionary_case)
