use Rattle.std.proofs.Common.{◌≡◌, arith, sym, ap, ◌∙◌}
use Rattle.polars_arrays_flat.specs.DataType.{IsSameField, key_kind, kind_of, kinds_of}
use Rattle.polars_arrays_flat.specs.DataTypeLaws.{kind_of-struct}
use Rattle.polars_arrays_flat.specs.Kind.{ListKind, LargeListKind, FixedSizeListKind, DictionaryKind}
use Rattle.polars_arrays_nested.proofs.Clones.{copies-more}
use Rattle.polars_arrays_nested.proofs.FieldKinds.{kinds_agree, struct_kind}
use Rattle.polars_arrays_nested.proofs.data_types.+clone_types.Goals as goal

pub clone_fields-returns : goal.clone_fields-returns
clone_fields-returns t c =
    kinds_agree c.loop-field.copies.items c.args.fields.now (omega arith) (λ k d low. c.loop-field.invariant.1 k d (omega arith))

pub clone_type-returns-in_ok-clone_fields-in-Struct :
    goal.clone_type-returns-in_ok-clone_fields-in-Struct
clone_type-returns-in_ok-clone_fields-in-Struct t c =
    let copies = c.in_ok-clone_fields-in-Struct.field-0 in
    let copied : kinds_of copies.items ≡ kinds_of c.in-Struct.fields.items = rw c.deref-in-Struct.ensures.value at c.in_ok-clone_fields-in-Struct.ensures in
    struct_kind copies c.in-Struct.fields.items copied ∙ sym (kind_of-struct c.in-Struct.fields) ∙ sym (ap kind_of c.in-Struct.is)

pub clone_type-returns-in-Null : goal.clone_type-returns-in-Null
clone_type-returns-in-Null t c = sym (ap kind_of c.in-Null.is)

pub clone_type-returns-in-Boolean : goal.clone_type-returns-in-Boolean
clone_type-returns-in-Boolean t c = sym (ap kind_of c.in-Boolean.is)

pub clone_type-returns-in-Int8 : goal.clone_type-returns-in-Int8
clone_type-returns-in-Int8 t c = sym (ap kind_of c.in-Int8.is)

pub clone_type-returns-in-Int16 : goal.clone_type-returns-in-Int16
clone_type-returns-in-Int16 t c = sym (ap kind_of c.in-Int16.is)

pub clone_type-returns-in-Int32 : goal.clone_type-returns-in-Int32
clone_type-returns-in-Int32 t c = sym (ap kind_of c.in-Int32.is)

pub clone_type-returns-in-Int64 : goal.clone_type-returns-in-Int64
clone_type-returns-in-Int64 t c = sym (ap kind_of c.in-Int64.is)

pub clone_type-returns-in-Int128 : goal.clone_type-returns-in-Int128
clone_type-returns-in-Int128 t c = sym (ap kind_of c.in-Int128.is)

pub clone_type-returns-in-UInt8 : goal.clone_type-returns-in-UInt8
clone_type-returns-in-UInt8 t c = sym (ap kind_of c.in-UInt8.is)

pub clone_type-returns-in-UInt16 : goal.clone_type-returns-in-UInt16
clone_type-returns-in-UInt16 t c = sym (ap kind_of c.in-UInt16.is)

pub clone_type-returns-in-UInt32 : goal.clone_type-returns-in-UInt32
clone_type-returns-in-UInt32 t c = sym (ap kind_of c.in-UInt32.is)

pub clone_type-returns-in-UInt64 : goal.clone_type-returns-in-UInt64
clone_type-returns-in-UInt64 t c = sym (ap kind_of c.in-UInt64.is)

pub clone_type-returns-in-UInt128 : goal.clone_type-returns-in-UInt128
clone_type-returns-in-UInt128 t c = sym (ap kind_of c.in-UInt128.is)

pub clone_type-returns-in-Binary : goal.clone_type-returns-in-Binary
clone_type-returns-in-Binary t c = sym (ap kind_of c.in-Binary.is)

pub clone_type-returns-in-LargeBinary : goal.clone_type-returns-in-LargeBinary
clone_type-returns-in-LargeBinary t c = sym (ap kind_of c.in-LargeBinary.is)

pub clone_type-returns-in-Utf8 : goal.clone_type-returns-in-Utf8
clone_type-returns-in-Utf8 t c = sym (ap kind_of c.in-Utf8.is)

pub clone_type-returns-in-LargeUtf8 : goal.clone_type-returns-in-LargeUtf8
clone_type-returns-in-LargeUtf8 t c = sym (ap kind_of c.in-LargeUtf8.is)

pub clone_type-returns-in-BinaryView : goal.clone_type-returns-in-BinaryView
clone_type-returns-in-BinaryView t c = sym (ap kind_of c.in-BinaryView.is)

pub clone_type-returns-in-Utf8View : goal.clone_type-returns-in-Utf8View
clone_type-returns-in-Utf8View t c = sym (ap kind_of c.in-Utf8View.is)

pub clone_type-returns-in-FixedSizeBinary : goal.clone_type-returns-in-FixedSizeBinary
clone_type-returns-in-FixedSizeBinary t c = sym (ap kind_of c.in-FixedSizeBinary.is)

pub clone_type-returns-in_ok-boxed_type-in-List : goal.clone_type-returns-in_ok-boxed_type-in-List
clone_type-returns-in_ok-boxed_type-in-List t c =
    ap ListKind (c.in_ok-boxed_type-in-List.ensures ∙ ap kind_of c.deref.ensures) ∙ sym (ap kind_of c.in-List.is)

pub clone_type-returns-in_ok-boxed_type-in-LargeList : goal.clone_type-returns-in_ok-boxed_type-in-LargeList
clone_type-returns-in_ok-boxed_type-in-LargeList t c =
    ap LargeListKind (c.in_ok-boxed_type-in-LargeList.ensures ∙ ap kind_of c.deref-in-LargeList.ensures) ∙ sym (ap kind_of c.in-LargeList.is)

pub clone_type-returns-in_ok-item-in-FixedSizeList : goal.clone_type-returns-in_ok-item-in-FixedSizeList
clone_type-returns-in_ok-item-in-FixedSizeList t c =
    ap (λ kind. FixedSizeListKind kind c.in-FixedSizeList.width) (c.in_ok-item-in-FixedSizeList.ensures ∙ ap kind_of c.deref-in-FixedSizeList.ensures) ∙ sym (ap kind_of c.in-FixedSizeList.is)

pub clone_type-returns-in_ok-entry-in-Dictionary : goal.clone_type-returns-in_ok-entry-in-Dictionary
clone_type-returns-in_ok-entry-in-Dictionary t c =
    ap (DictionaryKind (key_kind c.in-Dictionary.keys)) (c.in_ok-entry-in-Dictionary.ensures ∙ ap kind_of c.deref-in-Dictionary.ensures) ∙ sym (ap kind_of c.in-Dictionary.is)

pub boxed_type-returns : goal.boxed_type-returns
boxed_type-returns t c = ap kind_of c.in_ok-copy-2.ensures.ok ∙ c.in_ok-copy.ensures

pub clone_fields-loop-field-preserved : goal.clone_fields-loop-field-preserved
clone_fields-loop-field-preserved t c =
    copies-more IsSameField _ c.loop-field.copies.items c.args.fields.now c.in_ok-copy.copy c.field-item.result c.loop-field.field-index c.in_ok-push.ensures.items c.loop-field.invariant.0 c.loop-field-test.true c.field-item.is c.in_ok-copy.ensures c.loop-field.invariant.1
