use Rattle.std.proofs.Common.{subst, sym}
use Rattle.std.specs.Prelude.{pos, IfErr, IfOk}
use Rattle.polars_arrays_nested.specs.declared.any_array.AnyArray as of
use Rattle.polars_arrays_nested.specs.declared.dict_keys.DictKeys.TheVariants as keys
use Rattle.arrow_parts.specs.Refusals.{IsHonest}
use Rattle.arrow_arrays.proofs.Fitting.{key-Int16, key-Int32, key-Int64, key-Int8, key-UInt16, key-UInt32, key-UInt64, key-UInt8, keys-refused, leaf-Binary, leaf-BinaryView, leaf-Boolean, leaf-FixedSizeBinary, leaf-Int128, leaf-Int16, leaf-Int32, leaf-Int64, leaf-Int8, leaf-LargeBinary, leaf-LargeUtf8, leaf-Null, leaf-UInt128, leaf-UInt16, leaf-UInt32, leaf-UInt64, leaf-UInt8, leaf-Utf8, leaf-Utf8View}
use Rattle.arrow_arrays.specs.Good.{GoodKind}
use Rattle.arrow_arrays.specs.Shapes.{FitsKind, IsHonestOver}
use Rattle.arrow_arrays.specs.declared.shapes.Shape.TheVariants.{Leaf, Entries}
use Rattle.arrow_arrays.proofs.shapes.shape_of_kind.Goals as goal

pub returns-in-Null-clause-made : goal.returns-in-Null-clause-made
returns-in-Null-clause-made c =
    subst (λ k. FitsKind k c.args.part.now (Leaf (of.Null c.new.result))) (sym c.in-Null.is) (leaf-Null c.args.part.now c.new.result c.new.ensures)

pub returns-in-Ok-clause-made : goal.returns-in-Ok-clause-made
returns-in-Ok-clause-made c =
    subst (λ k. FitsKind k c.args.part.now (Leaf (of.Boolean c.in-Ok.array))) (sym c.in-Boolean.is) (leaf-Boolean c.args.part.now c.in-Ok.array c.in-Ok.ensures.made)

pub returns-in-Err-clause-refused : goal.returns-in-Err-clause-refused
returns-in-Err-clause-refused c =
    λ cs. subst (λ k. IsHonest (GoodKind k c.args.part.now cs) c.in-Err.reason) (sym c.in-Boolean.is) c.in-Err.ensures.refused

pub returns-in-Ok-numbers-clause-made : goal.returns-in-Ok-numbers-clause-made
returns-in-Ok-numbers-clause-made c =
    subst (λ k. FitsKind k c.args.part.now (Leaf (of.Int8 c.in-Ok-numbers.array))) (sym c.in-Int8.is) (leaf-Int8 c.args.part.now c.in-Ok-numbers.array c.in-Ok-numbers.ensures.made)

pub returns-in-Err-numbers-clause-refused : goal.returns-in-Err-numbers-clause-refused
returns-in-Err-numbers-clause-refused c =
    λ cs. subst (λ k. IsHonest (GoodKind k c.args.part.now cs) c.in-Err-numbers.reason) (sym c.in-Int8.is) c.in-Err-numbers.ensures.refused

pub returns-in-Ok-numbers-2-clause-made : goal.returns-in-Ok-numbers-2-clause-made
returns-in-Ok-numbers-2-clause-made c =
    subst (λ k. FitsKind k c.args.part.now (Leaf (of.Int16 c.in-Ok-numbers-2.array))) (sym c.in-Int16.is) (leaf-Int16 c.args.part.now c.in-Ok-numbers-2.array c.in-Ok-numbers-2.ensures.made)

pub returns-in-Err-numbers-2-clause-refused : goal.returns-in-Err-numbers-2-clause-refused
returns-in-Err-numbers-2-clause-refused c =
    λ cs. subst (λ k. IsHonest (GoodKind k c.args.part.now cs) c.in-Err-numbers-2.reason) (sym c.in-Int16.is) c.in-Err-numbers-2.ensures.refused

pub returns-in-Ok-numbers-3-clause-made : goal.returns-in-Ok-numbers-3-clause-made
returns-in-Ok-numbers-3-clause-made c =
    subst (λ k. FitsKind k c.args.part.now (Leaf (of.Int32 c.in-Ok-numbers-3.array))) (sym c.in-Int32.is) (leaf-Int32 c.args.part.now c.in-Ok-numbers-3.array c.in-Ok-numbers-3.ensures.made)

pub returns-in-Err-numbers-3-clause-refused : goal.returns-in-Err-numbers-3-clause-refused
returns-in-Err-numbers-3-clause-refused c =
    λ cs. subst (λ k. IsHonest (GoodKind k c.args.part.now cs) c.in-Err-numbers-3.reason) (sym c.in-Int32.is) c.in-Err-numbers-3.ensures.refused

pub returns-in-Ok-numbers-4-clause-made : goal.returns-in-Ok-numbers-4-clause-made
returns-in-Ok-numbers-4-clause-made c =
    subst (λ k. FitsKind k c.args.part.now (Leaf (of.Int64 c.in-Ok-numbers-4.array))) (sym c.in-Int64.is) (leaf-Int64 c.args.part.now c.in-Ok-numbers-4.array c.in-Ok-numbers-4.ensures.made)

pub returns-in-Err-numbers-4-clause-refused : goal.returns-in-Err-numbers-4-clause-refused
returns-in-Err-numbers-4-clause-refused c =
    λ cs. subst (λ k. IsHonest (GoodKind k c.args.part.now cs) c.in-Err-numbers-4.reason) (sym c.in-Int64.is) c.in-Err-numbers-4.ensures.refused

pub returns-in-Ok-signed_numbers-clause-made : goal.returns-in-Ok-signed_numbers-clause-made
returns-in-Ok-signed_numbers-clause-made c =
    subst (λ k. FitsKind k c.args.part.now (Leaf (of.Int128 c.in-Ok-signed_numbers.array))) (sym c.in-Int128.is) (leaf-Int128 c.args.part.now c.in-Ok-signed_numbers.array c.in-Ok-signed_numbers.ensures.made)

pub returns-in-Err-signed_numbers-clause-refused : goal.returns-in-Err-signed_numbers-clause-refused
returns-in-Err-signed_numbers-clause-refused c =
    λ cs. subst (λ k. IsHonest (GoodKind k c.args.part.now cs) c.in-Err-signed_numbers.reason) (sym c.in-Int128.is) c.in-Err-signed_numbers.ensures.refused

pub returns-in-Ok-numbers-5-clause-made : goal.returns-in-Ok-numbers-5-clause-made
returns-in-Ok-numbers-5-clause-made c =
    subst (λ k. FitsKind k c.args.part.now (Leaf (of.UInt8 c.in-Ok-numbers-5.array))) (sym c.in-UInt8.is) (leaf-UInt8 c.args.part.now c.in-Ok-numbers-5.array c.in-Ok-numbers-5.ensures.made)

pub returns-in-Err-numbers-5-clause-refused : goal.returns-in-Err-numbers-5-clause-refused
returns-in-Err-numbers-5-clause-refused c =
    λ cs. subst (λ k. IsHonest (GoodKind k c.args.part.now cs) c.in-Err-numbers-5.reason) (sym c.in-UInt8.is) c.in-Err-numbers-5.ensures.refused

pub returns-in-Ok-numbers-6-clause-made : goal.returns-in-Ok-numbers-6-clause-made
returns-in-Ok-numbers-6-clause-made c =
    subst (λ k. FitsKind k c.args.part.now (Leaf (of.UInt16 c.in-Ok-numbers-6.array))) (sym c.in-UInt16.is) (leaf-UInt16 c.args.part.now c.in-Ok-numbers-6.array c.in-Ok-numbers-6.ensures.made)

pub returns-in-Err-numbers-6-clause-refused : goal.returns-in-Err-numbers-6-clause-refused
returns-in-Err-numbers-6-clause-refused c =
    λ cs. subst (λ k. IsHonest (GoodKind k c.args.part.now cs) c.in-Err-numbers-6.reason) (sym c.in-UInt16.is) c.in-Err-numbers-6.ensures.refused

pub returns-in-Ok-numbers-7-clause-made : goal.returns-in-Ok-numbers-7-clause-made
returns-in-Ok-numbers-7-clause-made c =
    subst (λ k. FitsKind k c.args.part.now (Leaf (of.UInt32 c.in-Ok-numbers-7.array))) (sym c.in-UInt32.is) (leaf-UInt32 c.args.part.now c.in-Ok-numbers-7.array c.in-Ok-numbers-7.ensures.made)

pub returns-in-Err-numbers-7-clause-refused : goal.returns-in-Err-numbers-7-clause-refused
returns-in-Err-numbers-7-clause-refused c =
    λ cs. subst (λ k. IsHonest (GoodKind k c.args.part.now cs) c.in-Err-numbers-7.reason) (sym c.in-UInt32.is) c.in-Err-numbers-7.ensures.refused

pub returns-in-Ok-numbers-8-clause-made : goal.returns-in-Ok-numbers-8-clause-made
returns-in-Ok-numbers-8-clause-made c =
    subst (λ k. FitsKind k c.args.part.now (Leaf (of.UInt64 c.in-Ok-numbers-8.array))) (sym c.in-UInt64.is) (leaf-UInt64 c.args.part.now c.in-Ok-numbers-8.array c.in-Ok-numbers-8.ensures.made)

pub returns-in-Err-numbers-8-clause-refused : goal.returns-in-Err-numbers-8-clause-refused
returns-in-Err-numbers-8-clause-refused c =
    λ cs. subst (λ k. IsHonest (GoodKind k c.args.part.now cs) c.in-Err-numbers-8.reason) (sym c.in-UInt64.is) c.in-Err-numbers-8.ensures.refused

pub returns-in-Ok-unsigned_numbers-clause-made : goal.returns-in-Ok-unsigned_numbers-clause-made
returns-in-Ok-unsigned_numbers-clause-made c =
    subst (λ k. FitsKind k c.args.part.now (Leaf (of.UInt128 c.in-Ok-unsigned_numbers.array))) (sym c.in-UInt128.is) (leaf-UInt128 c.args.part.now c.in-Ok-unsigned_numbers.array c.in-Ok-unsigned_numbers.ensures.made)

pub returns-in-Err-unsigned_numbers-clause-refused : goal.returns-in-Err-unsigned_numbers-clause-refused
returns-in-Err-unsigned_numbers-clause-refused c =
    λ cs. subst (λ k. IsHonest (GoodKind k c.args.part.now cs) c.in-Err-unsigned_numbers.reason) (sym c.in-UInt128.is) c.in-Err-unsigned_numbers.ensures.refused

pub returns-in-Ok-strings-clause-made : goal.returns-in-Ok-strings-clause-made
returns-in-Ok-strings-clause-made c =
    subst (λ k. FitsKind k c.args.part.now (Leaf (of.LargeBinary c.in-Ok-strings.array))) (sym c.in-Binary.is) (leaf-Binary c.args.part.now c.in-Ok-strings.array c.in-Ok-strings.ensures.made c.in-Ok-strings.ensures.good)

pub returns-in-Err-strings-clause-refused : goal.returns-in-Err-strings-clause-refused
returns-in-Err-strings-clause-refused c =
    λ cs. subst (λ k. IsHonest (GoodKind k c.args.part.now cs) c.in-Err-strings.reason) (sym c.in-Binary.is) c.in-Err-strings.ensures.refused

pub returns-in-Ok-strings-2-clause-made : goal.returns-in-Ok-strings-2-clause-made
returns-in-Ok-strings-2-clause-made c =
    subst (λ k. FitsKind k c.args.part.now (Leaf (of.LargeBinary c.in-Ok-strings-2.array))) (sym c.in-LargeBinary.is) (leaf-LargeBinary c.args.part.now c.in-Ok-strings-2.array c.in-Ok-strings-2.ensures.made c.in-Ok-strings-2.ensures.good)

pub returns-in-Err-strings-2-clause-refused : goal.returns-in-Err-strings-2-clause-refused
returns-in-Err-strings-2-clause-refused c =
    λ cs. subst (λ k. IsHonest (GoodKind k c.args.part.now cs) c.in-Err-strings-2.reason) (sym c.in-LargeBinary.is) c.in-Err-strings-2.ensures.refused

pub returns-in-Ok-texts-clause-made : goal.returns-in-Ok-texts-clause-made
returns-in-Ok-texts-clause-made c =
    subst (λ k. FitsKind k c.args.part.now (Leaf (of.LargeUtf8 c.in-Ok-texts.array))) (sym c.in-Utf8.is) (leaf-Utf8 c.args.part.now c.in-Ok-texts.array c.in-Ok-texts.ensures.made c.in-Ok-texts.ensures.good)

pub returns-in-Err-texts-clause-refused : goal.returns-in-Err-texts-clause-refused
returns-in-Err-texts-clause-refused c =
    λ cs. subst (λ k. IsHonest (GoodKind k c.args.part.now cs) c.in-Err-texts.reason) (sym c.in-Utf8.is) c.in-Err-texts.ensures.refused

pub returns-in-Ok-texts-2-clause-made : goal.returns-in-Ok-texts-2-clause-made
returns-in-Ok-texts-2-clause-made c =
    subst (λ k. FitsKind k c.args.part.now (Leaf (of.LargeUtf8 c.in-Ok-texts-2.array))) (sym c.in-LargeUtf8.is) (leaf-LargeUtf8 c.args.part.now c.in-Ok-texts-2.array c.in-Ok-texts-2.ensures.made c.in-Ok-texts-2.ensures.good)

pub returns-in-Err-texts-2-clause-refused : goal.returns-in-Err-texts-2-clause-refused
returns-in-Err-texts-2-clause-refused c =
    λ cs. subst (λ k. IsHonest (GoodKind k c.args.part.now cs) c.in-Err-texts-2.reason) (sym c.in-LargeUtf8.is) c.in-Err-texts-2.ensures.refused

pub returns-in-Ok-sized_strings-clause-made : goal.returns-in-Ok-sized_strings-clause-made
returns-in-Ok-sized_strings-clause-made c =
    subst (λ k. FitsKind k c.args.part.now (Leaf (of.FixedSizeBinary c.in-Ok-sized_strings.array))) (sym c.in-FixedSizeBinary.is) (leaf-FixedSizeBinary c.args.part.now c.in-Ok-sized_strings.array c.in-Ok-sized_strings.ensures.made)

pub returns-in-Err-sized_strings-clause-refused : goal.returns-in-Err-sized_strings-clause-refused
returns-in-Err-sized_strings-clause-refused c =
    λ cs. subst (λ k. IsHonest (GoodKind k c.args.part.now cs) c.in-Err-sized_strings.reason) (sym c.in-FixedSizeBinary.is) c.in-Err-sized_strings.ensures.refused

pub returns-in-Ok-viewed_strings-clause-made : goal.returns-in-Ok-viewed_strings-clause-made
returns-in-Ok-viewed_strings-clause-made c =
    subst (λ k. FitsKind k c.args.part.now (Leaf (of.LargeBinary c.in-Ok-viewed_strings.array))) (sym c.in-BinaryView.is) (leaf-BinaryView c.args.part.now c.in-Ok-viewed_strings.array c.in-Ok-viewed_strings.ensures.made c.in-Ok-viewed_strings.ensures.good)

pub returns-in-Err-viewed_strings-clause-refused : goal.returns-in-Err-viewed_strings-clause-refused
returns-in-Err-viewed_strings-clause-refused c =
    λ cs. subst (λ k. IsHonest (GoodKind k c.args.part.now cs) c.in-Err-viewed_strings.reason) (sym c.in-BinaryView.is) c.in-Err-viewed_strings.ensures.refused

pub returns-in-Ok-viewed_texts-clause-made : goal.returns-in-Ok-viewed_texts-clause-made
returns-in-Ok-viewed_texts-clause-made c =
    subst (λ k. FitsKind k c.args.part.now (Leaf (of.LargeUtf8 c.in-Ok-viewed_texts.array))) (sym c.in-Utf8View.is) (leaf-Utf8View c.args.part.now c.in-Ok-viewed_texts.array c.in-Ok-viewed_texts.ensures.made c.in-Ok-viewed_texts.ensures.good)

pub returns-in-Err-viewed_texts-clause-refused : goal.returns-in-Err-viewed_texts-clause-refused
returns-in-Err-viewed_texts-clause-refused c =
    λ cs. subst (λ k. IsHonest (GoodKind k c.args.part.now cs) c.in-Err-viewed_texts.reason) (sym c.in-Utf8View.is) c.in-Err-viewed_texts.ensures.refused

pub returns-in-List-clause-made : goal.returns-in-List-clause-made
returns-in-List-clause-made c =
    subst (λ k. IfOk c.lists.result (FitsKind k c.args.part.now)) (sym c.in-List.is) c.lists.ensures.made

pub returns-in-List-clause-refused : goal.returns-in-List-clause-refused
returns-in-List-clause-refused c =
    subst (λ k. IfErr c.lists.result (IsHonestOver (GoodKind k c.args.part.now))) (sym c.in-List.is) c.lists.ensures.refused

pub returns-in-LargeList-clause-made : goal.returns-in-LargeList-clause-made
returns-in-LargeList-clause-made c =
    subst (λ k. IfOk c.lists-in-LargeList.result (FitsKind k c.args.part.now)) (sym c.in-LargeList.is) c.lists-in-LargeList.ensures.made

pub returns-in-LargeList-clause-refused : goal.returns-in-LargeList-clause-refused
returns-in-LargeList-clause-refused c =
    subst (λ k. IfErr c.lists-in-LargeList.result (IsHonestOver (GoodKind k c.args.part.now))) (sym c.in-LargeList.is) c.lists-in-LargeList.ensures.refused

pub returns-in-FixedSizeList-clause-made : goal.returns-in-FixedSizeList-clause-made
returns-in-FixedSizeList-clause-made c =
    subst (λ k. IfOk c.fixed_lists.result (FitsKind k c.args.part.now)) (sym c.in-FixedSizeList.is) c.fixed_lists.ensures.made

pub returns-in-FixedSizeList-clause-refused : goal.returns-in-FixedSizeList-clause-refused
returns-in-FixedSizeList-clause-refused c =
    subst (λ k. IfErr c.fixed_lists.result (IsHonestOver (GoodKind k c.args.part.now))) (sym c.in-FixedSizeList.is) c.fixed_lists.ensures.refused

pub returns-in-Struct-clause-made : goal.returns-in-Struct-clause-made
returns-in-Struct-clause-made c =
    subst (λ k. IfOk c.structs.result (FitsKind k c.args.part.now)) (sym c.in-Struct.is) c.structs.ensures.made

pub returns-in-Struct-clause-refused : goal.returns-in-Struct-clause-refused
returns-in-Struct-clause-refused c =
    subst (λ k. IfErr c.structs.result (IsHonestOver (GoodKind k c.args.part.now))) (sym c.in-Struct.is) c.structs.ensures.refused

pub returns-in-Ok-numbers-9-clause-made : goal.returns-in-Ok-numbers-9-clause-made
returns-in-Ok-numbers-9-clause-made c =
    subst (λ k. FitsKind k c.args.part.now (Entries (keys.Int8 c.in-Ok-numbers-9.keys))) (sym c.in-DictInt8.is) (key-Int8 c.args.part.now c.in-Ok-numbers-9.keys c.in-Ok-numbers-9.ensures.made)

pub returns-in-Err-numbers-9-clause-refused : goal.returns-in-Err-numbers-9-clause-refused
returns-in-Err-numbers-9-clause-refused c =
    λ cs. subst (λ k. IsHonest (GoodKind k c.args.part.now cs) c.in-Err-numbers-9.reason) (sym c.in-DictInt8.is) (keys-refused (λ x. x) c.args.part.now c.args.part.now.i8s.now c.in-Err-numbers-9.reason c.in-Err-numbers-9.ensures.refused cs)

pub returns-in-Ok-numbers-10-clause-made : goal.returns-in-Ok-numbers-10-clause-made
returns-in-Ok-numbers-10-clause-made c =
    subst (λ k. FitsKind k c.args.part.now (Entries (keys.Int16 c.in-Ok-numbers-10.keys))) (sym c.in-DictInt16.is) (key-Int16 c.args.part.now c.in-Ok-numbers-10.keys c.in-Ok-numbers-10.ensures.made)

pub returns-in-Err-numbers-10-clause-refused : goal.returns-in-Err-numbers-10-clause-refused
returns-in-Err-numbers-10-clause-refused c =
    λ cs. subst (λ k. IsHonest (GoodKind k c.args.part.now cs) c.in-Err-numbers-10.reason) (sym c.in-DictInt16.is) (keys-refused (λ x. x) c.args.part.now c.args.part.now.i16s.now c.in-Err-numbers-10.reason c.in-Err-numbers-10.ensures.refused cs)

pub returns-in-Ok-numbers-11-clause-made : goal.returns-in-Ok-numbers-11-clause-made
returns-in-Ok-numbers-11-clause-made c =
    subst (λ k. FitsKind k c.args.part.now (Entries (keys.Int32 c.in-Ok-numbers-11.keys))) (sym c.in-DictInt32.is) (key-Int32 c.args.part.now c.in-Ok-numbers-11.keys c.in-Ok-numbers-11.ensures.made)

pub returns-in-Err-numbers-11-clause-refused : goal.returns-in-Err-numbers-11-clause-refused
returns-in-Err-numbers-11-clause-refused c =
    λ cs. subst (λ k. IsHonest (GoodKind k c.args.part.now cs) c.in-Err-numbers-11.reason) (sym c.in-DictInt32.is) (keys-refused (λ x. x) c.args.part.now c.args.part.now.i32s.now c.in-Err-numbers-11.reason c.in-Err-numbers-11.ensures.refused cs)

pub returns-in-Ok-numbers-12-clause-made : goal.returns-in-Ok-numbers-12-clause-made
returns-in-Ok-numbers-12-clause-made c =
    subst (λ k. FitsKind k c.args.part.now (Entries (keys.Int64 c.in-Ok-numbers-12.keys))) (sym c.in-DictInt64.is) (key-Int64 c.args.part.now c.in-Ok-numbers-12.keys c.in-Ok-numbers-12.ensures.made)

pub returns-in-Err-numbers-12-clause-refused : goal.returns-in-Err-numbers-12-clause-refused
returns-in-Err-numbers-12-clause-refused c =
    λ cs. subst (λ k. IsHonest (GoodKind k c.args.part.now cs) c.in-Err-numbers-12.reason) (sym c.in-DictInt64.is) (keys-refused (λ x. x) c.args.part.now c.args.part.now.i64s.now c.in-Err-numbers-12.reason c.in-Err-numbers-12.ensures.refused cs)

pub returns-in-Ok-numbers-13-clause-made : goal.returns-in-Ok-numbers-13-clause-made
returns-in-Ok-numbers-13-clause-made c =
    subst (λ k. FitsKind k c.args.part.now (Entries (keys.UInt8 c.in-Ok-numbers-13.keys))) (sym c.in-DictUInt8.is) (key-UInt8 c.args.part.now c.in-Ok-numbers-13.keys c.in-Ok-numbers-13.ensures.made)

pub returns-in-Err-numbers-13-clause-refused : goal.returns-in-Err-numbers-13-clause-refused
returns-in-Err-numbers-13-clause-refused c =
    λ cs. subst (λ k. IsHonest (GoodKind k c.args.part.now cs) c.in-Err-numbers-13.reason) (sym c.in-DictUInt8.is) (keys-refused (λ x. pos x) c.args.part.now c.args.part.now.u8s.now c.in-Err-numbers-13.reason c.in-Err-numbers-13.ensures.refused cs)

pub returns-in-Ok-numbers-14-clause-made : goal.returns-in-Ok-numbers-14-clause-made
returns-in-Ok-numbers-14-clause-made c =
    subst (λ k. FitsKind k c.args.part.now (Entries (keys.UInt16 c.in-Ok-numbers-14.keys))) (sym c.in-DictUInt16.is) (key-UInt16 c.args.part.now c.in-Ok-numbers-14.keys c.in-Ok-numbers-14.ensures.made)

pub returns-in-Err-numbers-14-clause-refused : goal.returns-in-Err-numbers-14-clause-refused
returns-in-Err-numbers-14-clause-refused c =
    λ cs. subst (λ k. IsHonest (GoodKind k c.args.part.now cs) c.in-Err-numbers-14.reason) (sym c.in-DictUInt16.is) (keys-refused (λ x. pos x) c.args.part.now c.args.part.now.u16s.now c.in-Err-numbers-14.reason c.in-Err-numbers-14.ensures.refused cs)

pub returns-in-Ok-numbers-15-clause-made : goal.returns-in-Ok-numbers-15-clause-made
returns-in-Ok-numbers-15-clause-made c =
    subst (λ k. FitsKind k c.args.part.now (Entries (keys.UInt32 c.in-Ok-numbers-15.keys))) (sym c.in-DictUInt32.is) (key-UInt32 c.args.part.now c.in-Ok-numbers-15.keys c.in-Ok-numbers-15.ensures.made)

pub returns-in-Err-numbers-15-clause-refused : goal.returns-in-Err-numbers-15-clause-refused
returns-in-Err-numbers-15-clause-refused c =
    λ cs. subst (λ k. IsHonest (GoodKind k c.args.part.now cs) c.in-Err-numbers-15.reason) (sym c.in-DictUInt32.is) (keys-refused (λ x. pos x) c.args.part.now c.args.part.now.u32s.now c.in-Err-numbers-15.reason c.in-Err-numbers-15.ensures.refused cs)

pub returns-in-Ok-numbers-16-clause-made : goal.returns-in-Ok-numbers-16-clause-made
returns-in-Ok-numbers-16-clause-made c =
    subst (λ k. FitsKind k c.args.part.now (Entries (keys.UInt64 c.in-Ok-numbers-16.keys))) (sym c.in-DictUInt64.is) (key-UInt64 c.args.part.now c.in-Ok-numbers-16.keys c.in-Ok-numbers-16.ensures.made)

pub returns-in-Err-numbers-16-clause-refused : goal.returns-in-Err-numbers-16-clause-refused
returns-in-Err-numbers-16-clause-refused c =
    λ cs. subst (λ k. IsHonest (GoodKind k c.args.part.now cs) c.in-Err-numbers-16.reason) (sym c.in-DictUInt64.is) (keys-refused (λ x. pos x) c.args.part.now c.args.part.now.u64s.now c.in-Err-numbers-16.reason c.in-Err-numbers-16.ensures.refused cs)
