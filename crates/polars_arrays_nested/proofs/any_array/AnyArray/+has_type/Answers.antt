use Rattle.polars_arrays_flat.specs.DataType.{kind_of}
use Rattle.std.proofs.Common.{ap, rules}
use Rattle.polars_arrays_nested.specs.Types.{type_of}
use Rattle.polars_arrays_nested.proofs.SameTypes.{always}
use Rattle.polars_arrays_nested.proofs.any_array.AnyArray.+has_type.Goals as goal

pub returns-in-Null-Null : goal.returns-in-Null-Null
returns-in-Null-Null t c = always _ _ _ (ap type_of c.in-Null-Null.is-0) (ap kind_of c.in-Null-Null.is-1)

pub returns-in-Boolean-Boolean : goal.returns-in-Boolean-Boolean
returns-in-Boolean-Boolean t c = always _ _ _ (ap type_of c.in-Boolean-Boolean.is-0) (ap kind_of c.in-Boolean-Boolean.is-1)

pub returns-in-Int8-Int8 : goal.returns-in-Int8-Int8
returns-in-Int8-Int8 t c = always _ _ _ (ap type_of c.in-Int8-Int8.is-0) (ap kind_of c.in-Int8-Int8.is-1)

pub returns-in-Int16-Int16 : goal.returns-in-Int16-Int16
returns-in-Int16-Int16 t c = always _ _ _ (ap type_of c.in-Int16-Int16.is-0) (ap kind_of c.in-Int16-Int16.is-1)

pub returns-in-Int32-Int32 : goal.returns-in-Int32-Int32
returns-in-Int32-Int32 t c = always _ _ _ (ap type_of c.in-Int32-Int32.is-0) (ap kind_of c.in-Int32-Int32.is-1)

pub returns-in-Int64-Int64 : goal.returns-in-Int64-Int64
returns-in-Int64-Int64 t c = always _ _ _ (ap type_of c.in-Int64-Int64.is-0) (ap kind_of c.in-Int64-Int64.is-1)

pub returns-in-Int128-Int128 : goal.returns-in-Int128-Int128
returns-in-Int128-Int128 t c = always _ _ _ (ap type_of c.in-Int128-Int128.is-0) (ap kind_of c.in-Int128-Int128.is-1)

pub returns-in-UInt8-UInt8 : goal.returns-in-UInt8-UInt8
returns-in-UInt8-UInt8 t c = always _ _ _ (ap type_of c.in-UInt8-UInt8.is-0) (ap kind_of c.in-UInt8-UInt8.is-1)

pub returns-in-UInt16-UInt16 : goal.returns-in-UInt16-UInt16
returns-in-UInt16-UInt16 t c = always _ _ _ (ap type_of c.in-UInt16-UInt16.is-0) (ap kind_of c.in-UInt16-UInt16.is-1)

pub returns-in-UInt32-UInt32 : goal.returns-in-UInt32-UInt32
returns-in-UInt32-UInt32 t c = always _ _ _ (ap type_of c.in-UInt32-UInt32.is-0) (ap kind_of c.in-UInt32-UInt32.is-1)

pub returns-in-UInt64-UInt64 : goal.returns-in-UInt64-UInt64
returns-in-UInt64-UInt64 t c = always _ _ _ (ap type_of c.in-UInt64-UInt64.is-0) (ap kind_of c.in-UInt64-UInt64.is-1)

pub returns-in-UInt128-UInt128 : goal.returns-in-UInt128-UInt128
returns-in-UInt128-UInt128 t c = always _ _ _ (ap type_of c.in-UInt128-UInt128.is-0) (ap kind_of c.in-UInt128-UInt128.is-1)

pub returns-in-Binary-Binary : goal.returns-in-Binary-Binary
returns-in-Binary-Binary t c = always _ _ _ (ap type_of c.in-Binary-Binary.is-0) (ap kind_of c.in-Binary-Binary.is-1)

pub returns-in-LargeBinary-LargeBinary : goal.returns-in-LargeBinary-LargeBinary
returns-in-LargeBinary-LargeBinary t c = always _ _ _ (ap type_of c.in-LargeBinary-LargeBinary.is-0) (ap kind_of c.in-LargeBinary-LargeBinary.is-1)

pub returns-in-Utf8-Utf8 : goal.returns-in-Utf8-Utf8
returns-in-Utf8-Utf8 t c = always _ _ _ (ap type_of c.in-Utf8-Utf8.is-0) (ap kind_of c.in-Utf8-Utf8.is-1)

pub returns-in-LargeUtf8-LargeUtf8 : goal.returns-in-LargeUtf8-LargeUtf8
returns-in-LargeUtf8-LargeUtf8 t c = always _ _ _ (ap type_of c.in-LargeUtf8-LargeUtf8.is-0) (ap kind_of c.in-LargeUtf8-LargeUtf8.is-1)

pub returns-in-BinaryView-BinaryView : goal.returns-in-BinaryView-BinaryView
returns-in-BinaryView-BinaryView t c = always _ _ _ (ap type_of c.in-BinaryView-BinaryView.is-0) (ap kind_of c.in-BinaryView-BinaryView.is-1)

pub returns-in-Utf8View-Utf8View : goal.returns-in-Utf8View-Utf8View
returns-in-Utf8View-Utf8View t c = always _ _ _ (ap type_of c.in-Utf8View-Utf8View.is-0) (ap kind_of c.in-Utf8View-Utf8View.is-1)

pub returns-in-FixedSizeBinary-FixedSizeBinary : goal.returns-in-FixedSizeBinary-FixedSizeBinary
returns-in-FixedSizeBinary-FixedSizeBinary t c = search rules

pub returns-else-width : goal.returns-else-width
returns-else-width t c = search rules

pub returns-then-width : goal.returns-then-width
returns-then-width t c = search rules

pub returns-else-is_large : goal.returns-else-is_large
returns-else-is_large t c = search rules

pub returns-then-is_large : goal.returns-then-is_large
returns-then-is_large t c = search rules

pub returns-then-same_keys : goal.returns-then-same_keys
returns-then-same_keys t c = search rules

pub returns-then-not-is_large : goal.returns-then-not-is_large
returns-then-not-is_large t c = search rules

pub returns-in-Struct-default : goal.returns-in-Struct-default
returns-in-Struct-default t c = search rules

pub returns-else-same_keys : goal.returns-else-same_keys
returns-else-same_keys t c = search rules

pub returns-else-not-is_large : goal.returns-else-not-is_large
returns-else-not-is_large t c = search rules
