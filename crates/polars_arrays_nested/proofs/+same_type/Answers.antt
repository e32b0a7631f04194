use Rattle.std.proofs.Common.{ap, sym, ◌∙◌, rules}
use Rattle.polars_arrays_flat.specs.Kind.{NullKind, BooleanKind, Int8Kind, Int16Kind, Int32Kind, Int64Kind, Int128Kind, UInt8Kind, UInt16Kind, UInt32Kind, UInt64Kind, UInt128Kind, BinaryKind, LargeBinaryKind, Utf8Kind, LargeUtf8Kind, BinaryViewKind, Utf8ViewKind, FixedSizeBinaryKind}
use Rattle.polars_arrays_nested.specs.Types.{type_of}
use Rattle.polars_arrays_nested.proofs.SameTypes.{asked_of_other, asked_of_part, never, list_only, fixed_only, dictionary_only}
use Rattle.polars_arrays_nested.proofs.+same_type.Goals as goal

pub dictionary::DictionaryArray::is_type_of-returns-in_default :
    goal.dictionary::DictionaryArray::is_type_of-returns-in_default
dictionary::DictionaryArray::is_type_of-returns-in_default t c =
    never _ (λ e. dictionary_only c.args.other.now _ _ e c.in_default.not-Dictionary)

pub fixed_size_list::FixedSizeListArray::is_type_of-returns-in_default :
    goal.fixed_size_list::FixedSizeListArray::is_type_of-returns-in_default
fixed_size_list::FixedSizeListArray::is_type_of-returns-in_default t c =
    never _ (λ e. fixed_only c.args.other.now _ _ e c.in_default.not-FixedSizeList)

pub list::ListArray::is_type_of-returns-in_default :
    goal.list::ListArray::is_type_of-returns-in_default
list::ListArray::is_type_of-returns-in_default t c =
    never _ (λ e. list_only c.args.other.now c.args.self.now.offsets _ e c.in_default.not-List)

pub any_array::AnyArray::same_type-returns-in-Null : goal.any_array::AnyArray::same_type-returns-in-Null
any_array::AnyArray::same_type-returns-in-Null t c =
    asked_of_other _ _ _ NullKind (ap type_of c.in-Null.is) c.has_type.ensures

pub any_array::AnyArray::same_type-returns-in-Boolean : goal.any_array::AnyArray::same_type-returns-in-Boolean
any_array::AnyArray::same_type-returns-in-Boolean t c =
    asked_of_other _ _ _ BooleanKind (ap type_of c.in-Boolean.is) c.has_type-in-Boolean.ensures

pub any_array::AnyArray::same_type-returns-in-Int8 : goal.any_array::AnyArray::same_type-returns-in-Int8
any_array::AnyArray::same_type-returns-in-Int8 t c =
    asked_of_other _ _ _ Int8Kind (ap type_of c.in-Int8.is) c.has_type-in-Int8.ensures

pub any_array::AnyArray::same_type-returns-in-Int16 : goal.any_array::AnyArray::same_type-returns-in-Int16
any_array::AnyArray::same_type-returns-in-Int16 t c =
    asked_of_other _ _ _ Int16Kind (ap type_of c.in-Int16.is) c.has_type-in-Int16.ensures

pub any_array::AnyArray::same_type-returns-in-Int32 : goal.any_array::AnyArray::same_type-returns-in-Int32
any_array::AnyArray::same_type-returns-in-Int32 t c =
    asked_of_other _ _ _ Int32Kind (ap type_of c.in-Int32.is) c.has_type-in-Int32.ensures

pub any_array::AnyArray::same_type-returns-in-Int64 : goal.any_array::AnyArray::same_type-returns-in-Int64
any_array::AnyArray::same_type-returns-in-Int64 t c =
    asked_of_other _ _ _ Int64Kind (ap type_of c.in-Int64.is) c.has_type-in-Int64.ensures

pub any_array::AnyArray::same_type-returns-in-Int128 : goal.any_array::AnyArray::same_type-returns-in-Int128
any_array::AnyArray::same_type-returns-in-Int128 t c =
    asked_of_other _ _ _ Int128Kind (ap type_of c.in-Int128.is) c.has_type-in-Int128.ensures

pub any_array::AnyArray::same_type-returns-in-UInt8 : goal.any_array::AnyArray::same_type-returns-in-UInt8
any_array::AnyArray::same_type-returns-in-UInt8 t c =
    asked_of_other _ _ _ UInt8Kind (ap type_of c.in-UInt8.is) c.has_type-in-UInt8.ensures

pub any_array::AnyArray::same_type-returns-in-UInt16 : goal.any_array::AnyArray::same_type-returns-in-UInt16
any_array::AnyArray::same_type-returns-in-UInt16 t c =
    asked_of_other _ _ _ UInt16Kind (ap type_of c.in-UInt16.is) c.has_type-in-UInt16.ensures

pub any_array::AnyArray::same_type-returns-in-UInt32 : goal.any_array::AnyArray::same_type-returns-in-UInt32
any_array::AnyArray::same_type-returns-in-UInt32 t c =
    asked_of_other _ _ _ UInt32Kind (ap type_of c.in-UInt32.is) c.has_type-in-UInt32.ensures

pub any_array::AnyArray::same_type-returns-in-UInt64 : goal.any_array::AnyArray::same_type-returns-in-UInt64
any_array::AnyArray::same_type-returns-in-UInt64 t c =
    asked_of_other _ _ _ UInt64Kind (ap type_of c.in-UInt64.is) c.has_type-in-UInt64.ensures

pub any_array::AnyArray::same_type-returns-in-UInt128 : goal.any_array::AnyArray::same_type-returns-in-UInt128
any_array::AnyArray::same_type-returns-in-UInt128 t c =
    asked_of_other _ _ _ UInt128Kind (ap type_of c.in-UInt128.is) c.has_type-in-UInt128.ensures

pub any_array::AnyArray::same_type-returns-in-Binary : goal.any_array::AnyArray::same_type-returns-in-Binary
any_array::AnyArray::same_type-returns-in-Binary t c =
    asked_of_other _ _ _ BinaryKind (ap type_of c.in-Binary.is) c.has_type-in-Binary.ensures

pub any_array::AnyArray::same_type-returns-in-LargeBinary : goal.any_array::AnyArray::same_type-returns-in-LargeBinary
any_array::AnyArray::same_type-returns-in-LargeBinary t c =
    asked_of_other _ _ _ LargeBinaryKind (ap type_of c.in-LargeBinary.is) c.has_type-in-LargeBinary.ensures

pub any_array::AnyArray::same_type-returns-in-Utf8 : goal.any_array::AnyArray::same_type-returns-in-Utf8
any_array::AnyArray::same_type-returns-in-Utf8 t c =
    asked_of_other _ _ _ Utf8Kind (ap type_of c.in-Utf8.is) c.has_type-in-Utf8.ensures

pub any_array::AnyArray::same_type-returns-in-LargeUtf8 : goal.any_array::AnyArray::same_type-returns-in-LargeUtf8
any_array::AnyArray::same_type-returns-in-LargeUtf8 t c =
    asked_of_other _ _ _ LargeUtf8Kind (ap type_of c.in-LargeUtf8.is) c.has_type-in-LargeUtf8.ensures

pub any_array::AnyArray::same_type-returns-in-BinaryView : goal.any_array::AnyArray::same_type-returns-in-BinaryView
any_array::AnyArray::same_type-returns-in-BinaryView t c =
    asked_of_other _ _ _ BinaryViewKind (ap type_of c.in-BinaryView.is) c.has_type-in-BinaryView.ensures

pub any_array::AnyArray::same_type-returns-in-Utf8View : goal.any_array::AnyArray::same_type-returns-in-Utf8View
any_array::AnyArray::same_type-returns-in-Utf8View t c =
    asked_of_other _ _ _ Utf8ViewKind (ap type_of c.in-Utf8View.is) c.has_type-in-Utf8View.ensures

pub any_array::AnyArray::same_type-returns-in-FixedSizeBinary : goal.any_array::AnyArray::same_type-returns-in-FixedSizeBinary
any_array::AnyArray::same_type-returns-in-FixedSizeBinary t c =
    asked_of_other _ _ _ _ (ap type_of c.in-FixedSizeBinary.is ∙ ap FixedSizeBinaryKind (sym c.size.ensures)) c.has_type-in-FixedSizeBinary.ensures

pub any_array::AnyArray::same_type-returns-in-List : goal.any_array::AnyArray::same_type-returns-in-List
any_array::AnyArray::same_type-returns-in-List t c =
    asked_of_part _ _ _ _ (ap type_of c.in-List.is) c.is_type_of.ensures

pub any_array::AnyArray::same_type-returns-in-FixedSizeList : goal.any_array::AnyArray::same_type-returns-in-FixedSizeList
any_array::AnyArray::same_type-returns-in-FixedSizeList t c =
    asked_of_part _ _ _ _ (ap type_of c.in-FixedSizeList.is) c.is_type_of-in-FixedSizeList.ensures

pub any_array::AnyArray::same_type-returns-in-Struct : goal.any_array::AnyArray::same_type-returns-in-Struct
any_array::AnyArray::same_type-returns-in-Struct t c =
    asked_of_part _ _ _ _ (ap type_of c.in-Struct.is) c.is_type_of-in-Struct.ensures

pub any_array::AnyArray::same_type-returns-in-Dictionary : goal.any_array::AnyArray::same_type-returns-in-Dictionary
any_array::AnyArray::same_type-returns-in-Dictionary t c =
    asked_of_part _ _ _ _ (ap type_of c.in-Dictionary.is) c.is_type_of-in-Dictionary.ensures

pub dictionary::DictionaryArray::is_type_of-returns-else-same_keys : goal.dictionary::DictionaryArray::is_type_of-returns-else-same_keys
dictionary::DictionaryArray::is_type_of-returns-else-same_keys t c = search rules

pub list::ListArray::is_type_of-returns-then-is_large : goal.list::ListArray::is_type_of-returns-then-is_large
list::ListArray::is_type_of-returns-then-is_large t c = search rules

pub list::ListArray::is_type_of-returns-else-is_large : goal.list::ListArray::is_type_of-returns-else-is_large
list::ListArray::is_type_of-returns-else-is_large t c = search rules

pub dictionary::DictionaryArray::is_type_of-returns-then-same_keys : goal.dictionary::DictionaryArray::is_type_of-returns-then-same_keys
dictionary::DictionaryArray::is_type_of-returns-then-same_keys t c = search rules

pub fixed_size_list::FixedSizeListArray::is_type_of-returns-then-width : goal.fixed_size_list::FixedSizeListArray::is_type_of-returns-then-width
fixed_size_list::FixedSizeListArray::is_type_of-returns-then-width t c = search rules

pub fixed_size_list::FixedSizeListArray::is_type_of-returns-else-width : goal.fixed_size_list::FixedSizeListArray::is_type_of-returns-else-width
fixed_size_list::FixedSizeListArray::is_type_of-returns-else-width t c = search rules
