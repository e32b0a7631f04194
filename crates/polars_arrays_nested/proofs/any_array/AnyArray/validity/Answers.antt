use Rattle.std.proofs.Common.{pos}
use Rattle.polars_arrays_nested.proofs.Lengths.{length-between, length-numbers, length-sized, length-truths, length-views}
use Rattle.polars_arrays_nested.proofs.any_array.AnyArray.validity.Goals as goal

pub returns-in-Boolean : goal.returns-in-Boolean
returns-in-Boolean c = rw c.in-Boolean.is (record {
  validity = c.validity-in-Boolean.ensures.validity;
  bits = rw (length-truths c.in-Boolean.array.values) at c.validity-in-Boolean.ensures.bits;
})

pub returns-in-Int8 : goal.returns-in-Int8
returns-in-Int8 c = rw c.in-Int8.is (record {
  validity = c.validity-in-Int8.ensures.validity;
  bits = rw (length-numbers (λ x. x) c.in-Int8.array.values) at c.validity-in-Int8.ensures.bits;
})

pub returns-in-Int16 : goal.returns-in-Int16
returns-in-Int16 c = rw c.in-Int16.is (record {
  validity = c.validity-in-Int16.ensures.validity;
  bits = rw (length-numbers (λ x. x) c.in-Int16.array.values) at c.validity-in-Int16.ensures.bits;
})

pub returns-in-Int32 : goal.returns-in-Int32
returns-in-Int32 c = rw c.in-Int32.is (record {
  validity = c.validity-in-Int32.ensures.validity;
  bits = rw (length-numbers (λ x. x) c.in-Int32.array.values) at c.validity-in-Int32.ensures.bits;
})

pub returns-in-Int64 : goal.returns-in-Int64
returns-in-Int64 c = rw c.in-Int64.is (record {
  validity = c.validity-in-Int64.ensures.validity;
  bits = rw (length-numbers (λ x. x) c.in-Int64.array.values) at c.validity-in-Int64.ensures.bits;
})

pub returns-in-Int128 : goal.returns-in-Int128
returns-in-Int128 c = rw c.in-Int128.is (record {
  validity = c.validity-in-Int128.ensures.validity;
  bits = rw (length-numbers (λ x. x) c.in-Int128.array.values) at c.validity-in-Int128.ensures.bits;
})

pub returns-in-UInt8 : goal.returns-in-UInt8
returns-in-UInt8 c = rw c.in-UInt8.is (record {
  validity = c.validity-in-UInt8.ensures.validity;
  bits = rw (length-numbers (λ x. pos x) c.in-UInt8.array.values) at c.validity-in-UInt8.ensures.bits;
})

pub returns-in-UInt16 : goal.returns-in-UInt16
returns-in-UInt16 c = rw c.in-UInt16.is (record {
  validity = c.validity-in-UInt16.ensures.validity;
  bits = rw (length-numbers (λ x. pos x) c.in-UInt16.array.values) at c.validity-in-UInt16.ensures.bits;
})

pub returns-in-UInt32 : goal.returns-in-UInt32
returns-in-UInt32 c = rw c.in-UInt32.is (record {
  validity = c.validity-in-UInt32.ensures.validity;
  bits = rw (length-numbers (λ x. pos x) c.in-UInt32.array.values) at c.validity-in-UInt32.ensures.bits;
})

pub returns-in-UInt64 : goal.returns-in-UInt64
returns-in-UInt64 c = rw c.in-UInt64.is (record {
  validity = c.validity-in-UInt64.ensures.validity;
  bits = rw (length-numbers (λ x. pos x) c.in-UInt64.array.values) at c.validity-in-UInt64.ensures.bits;
})

pub returns-in-UInt128 : goal.returns-in-UInt128
returns-in-UInt128 c = rw c.in-UInt128.is (record {
  validity = c.validity-in-UInt128.ensures.validity;
  bits = rw (length-numbers (λ x. pos x) c.in-UInt128.array.values) at c.validity-in-UInt128.ensures.bits;
})

pub returns-in-Binary : goal.returns-in-Binary
returns-in-Binary c = rw c.in-Binary.is (record {
  validity = c.validity-in-Binary.ensures.validity;
  bits = rw (length-between (λ x. x) c.in-Binary.array.offsets c.in-Binary.array.values) at c.validity-in-Binary.ensures.bits;
})

pub returns-in-LargeBinary : goal.returns-in-LargeBinary
returns-in-LargeBinary c = rw c.in-LargeBinary.is (record {
  validity = c.validity-in-LargeBinary.ensures.validity;
  bits = rw (length-between (λ x. x) c.in-LargeBinary.array.offsets c.in-LargeBinary.array.values) at c.validity-in-LargeBinary.ensures.bits;
})

pub returns-in-Utf8 : goal.returns-in-Utf8
returns-in-Utf8 c = rw c.in-Utf8.is (record {
  validity = c.validity-in-Utf8.ensures.validity;
  bits = rw (length-between (λ x. x) c.in-Utf8.array.offsets c.in-Utf8.array.values) at c.validity-in-Utf8.ensures.bits;
})

pub returns-in-LargeUtf8 : goal.returns-in-LargeUtf8
returns-in-LargeUtf8 c = rw c.in-LargeUtf8.is (record {
  validity = c.validity-in-LargeUtf8.ensures.validity;
  bits = rw (length-between (λ x. x) c.in-LargeUtf8.array.offsets c.in-LargeUtf8.array.values) at c.validity-in-LargeUtf8.ensures.bits;
})

pub returns-in-BinaryView : goal.returns-in-BinaryView
returns-in-BinaryView c = rw c.in-BinaryView.is (record {
  validity = c.validity-in-BinaryView.ensures.validity;
  bits = rw (length-views c.in-BinaryView.array.buffers c.in-BinaryView.array.views) at c.validity-in-BinaryView.ensures.bits;
})

pub returns-in-Utf8View : goal.returns-in-Utf8View
returns-in-Utf8View c = rw c.in-Utf8View.is (record {
  validity = c.validity-in-Utf8View.ensures.validity;
  bits = rw (length-views c.in-Utf8View.array.buffers c.in-Utf8View.array.views) at c.validity-in-Utf8View.ensures.bits;
})

pub returns-in-FixedSizeBinary : goal.returns-in-FixedSizeBinary
returns-in-FixedSizeBinary c = rw c.in-FixedSizeBinary.is (record {
  validity = c.validity-in-FixedSizeBinary.ensures.validity;
  bits = rw (length-sized c.in-FixedSizeBinary.array.size c.in-FixedSizeBinary.array.count c.in-FixedSizeBinary.array.values) at c.validity-in-FixedSizeBinary.ensures.bits;
})
