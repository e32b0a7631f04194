use Rattle.polars_arrays_nested.specs.declared.any_array.AnyArray.{Null, Boolean, Int8, Int16, Int32, Int64, Int128, UInt8, UInt16, UInt32, UInt64, UInt128, Binary, LargeBinary, Utf8, LargeUtf8, BinaryView, Utf8View, FixedSizeBinary}
use Rattle.polars_arrays_nested.proofs.Clones.{clone-made}
use Rattle.polars_arrays_nested.proofs.Flat.{kind_case}
use Rattle.polars_arrays_nested.proofs.any_array.AnyArray.clone_flat.Goals as goal

pub unreachable-requires : goal.unreachable-requires
unreachable-requires c = kind_case c.args.self.now c.requires c.in_default.not-Null c.in_default.not-Boolean c.in_default.not-Int8 c.in_default.not-Int16 c.in_default.not-Int32 c.in_default.not-Int64 c.in_default.not-Int128 c.in_default.not-UInt8 c.in_default.not-UInt16 c.in_default.not-UInt32 c.in_default.not-UInt64 c.in_default.not-UInt128 c.in_default.not-Binary c.in_default.not-LargeBinary c.in_default.not-Utf8 c.in_default.not-LargeUtf8 c.in_default.not-BinaryView c.in_default.not-Utf8View c.in_default.not-FixedSizeBinary

pub returns-in-Null : goal.returns-in-Null
returns-in-Null c =
    clone-made Null c.in-Null.array c.args.self.now c.clone_array.result c.map.result c.in-Null.is c.clone_array.ensures.copy c.map.ensures.cases

pub returns-in-Boolean : goal.returns-in-Boolean
returns-in-Boolean c =
    clone-made Boolean c.in-Boolean.array c.args.self.now c.clone_array-in-Boolean.result c.map-in-Boolean.result c.in-Boolean.is c.clone_array-in-Boolean.ensures c.map-in-Boolean.ensures.cases

pub returns-in-Int8 : goal.returns-in-Int8
returns-in-Int8 c =
    clone-made Int8 c.in-Int8.array c.args.self.now c.clone_array-in-Int8.result c.map-in-Int8.result c.in-Int8.is c.clone_array-in-Int8.ensures c.map-in-Int8.ensures.cases

pub returns-in-Int16 : goal.returns-in-Int16
returns-in-Int16 c =
    clone-made Int16 c.in-Int16.array c.args.self.now c.clone_array-in-Int16.result c.map-in-Int16.result c.in-Int16.is c.clone_array-in-Int16.ensures c.map-in-Int16.ensures.cases

pub returns-in-Int32 : goal.returns-in-Int32
returns-in-Int32 c =
    clone-made Int32 c.in-Int32.array c.args.self.now c.clone_array-in-Int32.result c.map-in-Int32.result c.in-Int32.is c.clone_array-in-Int32.ensures c.map-in-Int32.ensures.cases

pub returns-in-Int64 : goal.returns-in-Int64
returns-in-Int64 c =
    clone-made Int64 c.in-Int64.array c.args.self.now c.clone_array-in-Int64.result c.map-in-Int64.result c.in-Int64.is c.clone_array-in-Int64.ensures c.map-in-Int64.ensures.cases

pub returns-in-Int128 : goal.returns-in-Int128
returns-in-Int128 c =
    clone-made Int128 c.in-Int128.array c.args.self.now c.clone_array-in-Int128.result c.map-in-Int128.result c.in-Int128.is c.clone_array-in-Int128.ensures c.map-in-Int128.ensures.cases

pub returns-in-UInt8 : goal.returns-in-UInt8
returns-in-UInt8 c =
    clone-made UInt8 c.in-UInt8.array c.args.self.now c.clone_array-in-UInt8.result c.map-in-UInt8.result c.in-UInt8.is c.clone_array-in-UInt8.ensures c.map-in-UInt8.ensures.cases

pub returns-in-UInt16 : goal.returns-in-UInt16
returns-in-UInt16 c =
    clone-made UInt16 c.in-UInt16.array c.args.self.now c.clone_array-in-UInt16.result c.map-in-UInt16.result c.in-UInt16.is c.clone_array-in-UInt16.ensures c.map-in-UInt16.ensures.cases

pub returns-in-UInt32 : goal.returns-in-UInt32
returns-in-UInt32 c =
    clone-made UInt32 c.in-UInt32.array c.args.self.now c.clone_array-in-UInt32.result c.map-in-UInt32.result c.in-UInt32.is c.clone_array-in-UInt32.ensures c.map-in-UInt32.ensures.cases

pub returns-in-UInt64 : goal.returns-in-UInt64
returns-in-UInt64 c =
    clone-made UInt64 c.in-UInt64.array c.args.self.now c.clone_array-in-UInt64.result c.map-in-UInt64.result c.in-UInt64.is c.clone_array-in-UInt64.ensures c.map-in-UInt64.ensures.cases

pub returns-in-UInt128 : goal.returns-in-UInt128
returns-in-UInt128 c =
    clone-made UInt128 c.in-UInt128.array c.args.self.now c.clone_array-in-UInt128.result c.map-in-UInt128.result c.in-UInt128.is c.clone_array-in-UInt128.ensures c.map-in-UInt128.ensures.cases

pub returns-in-Binary : goal.returns-in-Binary
returns-in-Binary c =
    clone-made Binary c.in-Binary.array c.args.self.now c.clone_array-in-Binary.result c.map-in-Binary.result c.in-Binary.is c.clone_array-in-Binary.ensures c.map-in-Binary.ensures.cases

pub returns-in-LargeBinary : goal.returns-in-LargeBinary
returns-in-LargeBinary c =
    clone-made LargeBinary c.in-LargeBinary.array c.args.self.now c.clone_array-in-LargeBinary.result c.map-in-LargeBinary.result c.in-LargeBinary.is c.clone_array-in-LargeBinary.ensures c.map-in-LargeBinary.ensures.cases

pub returns-in-Utf8 : goal.returns-in-Utf8
returns-in-Utf8 c =
    clone-made Utf8 c.in-Utf8.array c.args.self.now c.clone_array-in-Utf8.result c.map-in-Utf8.result c.in-Utf8.is c.clone_array-in-Utf8.ensures c.map-in-Utf8.ensures.cases

pub returns-in-LargeUtf8 : goal.returns-in-LargeUtf8
returns-in-LargeUtf8 c =
    clone-made LargeUtf8 c.in-LargeUtf8.array c.args.self.now c.clone_array-in-LargeUtf8.result c.map-in-LargeUtf8.result c.in-LargeUtf8.is c.clone_array-in-LargeUtf8.ensures c.map-in-LargeUtf8.ensures.cases

pub returns-in-BinaryView : goal.returns-in-BinaryView
returns-in-BinaryView c =
    clone-made BinaryView c.in-BinaryView.array c.args.self.now c.clone_array-in-BinaryView.result c.map-in-BinaryView.result c.in-BinaryView.is c.clone_array-in-BinaryView.ensures c.map-in-BinaryView.ensures.cases

pub returns-in-Utf8View : goal.returns-in-Utf8View
returns-in-Utf8View c =
    clone-made Utf8View c.in-Utf8View.array c.args.self.now c.clone_array-in-Utf8View.result c.map-in-Utf8View.result c.in-Utf8View.is c.clone_array-in-Utf8View.ensures c.map-in-Utf8View.ensures.cases

pub returns-in-FixedSizeBinary : goal.returns-in-FixedSizeBinary
returns-in-FixedSizeBinary c =
    clone-made FixedSizeBinary c.in-FixedSizeBinary.array c.args.self.now c.clone_array-in-FixedSizeBinary.result c.map-in-FixedSizeBinary.result c.in-FixedSizeBinary.is c.clone_array-in-FixedSizeBinary.ensures c.map-in-FixedSizeBinary.ensures.cases
