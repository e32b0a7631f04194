use Rattle.std.proofs.Common.{IsTrue, ◌∙◌, ap, sym, refl}
use Rattle.polars_arrays_nested.specs.Types.{type_of}
use Rattle.polars_compare_nested.proofs.Cases.{binary_case, binary_view_case, boolean_case, fixed_size_binary_case, int128_case, int16_case, int32_case, int64_case, int8_case, large_binary_case, large_utf8_case, leaves_case, uint128_case, uint16_case, uint32_case, uint64_case, uint8_case, utf8_case, utf8_view_case}
use Rattle.polars_compare_nested.proofs.LeafRows.{number-leaves, truth-leaves}
use Rattle.polars_compare_nested.specs.KindSorts.{is_sized}
use Rattle.polars_compare_nested.proofs.leaf_windows.eq_leaves.Goals as goal

pub unreachable-requires : goal.unreachable-requires
unreachable-requires c =
    boolean_case c.args.right.now (sym c.requires.one_type ∙ ap type_of c.in-Boolean.is) c.in_default-right.not-Boolean

pub compare_truth_windows-requires-clause-left_in : goal.compare_truth_windows-requires-clause-left_in
compare_truth_windows-requires-clause-left_in c = rw c.in-Boolean.is at c.requires.left_in

pub compare_truth_windows-requires-clause-right_in : goal.compare_truth_windows-requires-clause-right_in
compare_truth_windows-requires-clause-right_in c = rw c.in-Boolean-right.is at c.requires.right_in

pub returns-in-Boolean-right : goal.returns-in-Boolean-right
returns-in-Boolean-right c =
    rw (c.in-Boolean.is, c.in-Boolean-right.is)
    (truth-leaves _ _ _ _ _ _ (rw c.in-Boolean.is at c.requires.left_in) (rw c.in-Boolean-right.is at c.requires.right_in) c.compare_truth_windows.ensures)

pub unreachable-requires-in_default-right-2 : goal.unreachable-requires-in_default-right-2
unreachable-requires-in_default-right-2 c =
    int8_case c.args.right.now (sym c.requires.one_type ∙ ap type_of c.in-Int8.is) c.in_default-right-2.not-Int8

pub compare_number_windows-requires : goal.compare_number_windows-requires
compare_number_windows-requires c = (λ a m. m, (rw c.in-Int8.is at c.requires.left_in, rw c.in-Int8-right.is at c.requires.right_in))

pub returns-in-Int8-right : goal.returns-in-Int8-right
returns-in-Int8-right c =
    rw (c.in-Int8.is, c.in-Int8-right.is)
    (number-leaves _ c.in-Int8.left c.in-Int8-right.array _ _ _ _ (rw c.in-Int8.is at c.requires.left_in) (rw c.in-Int8-right.is at c.requires.right_in) c.compare_number_windows.ensures)

pub unreachable-requires-in_default-right-3 : goal.unreachable-requires-in_default-right-3
unreachable-requires-in_default-right-3 c =
    int16_case c.args.right.now (sym c.requires.one_type ∙ ap type_of c.in-Int16.is) c.in_default-right-3.not-Int16

pub compare_number_windows-requires-in-Int16 : goal.compare_number_windows-requires-in-Int16
compare_number_windows-requires-in-Int16 c = (λ a m. m, (rw c.in-Int16.is at c.requires.left_in, rw c.in-Int16-right.is at c.requires.right_in))

pub returns-in-Int16-right : goal.returns-in-Int16-right
returns-in-Int16-right c =
    rw (c.in-Int16.is, c.in-Int16-right.is)
    (number-leaves _ c.in-Int16.left c.in-Int16-right.array _ _ _ _ (rw c.in-Int16.is at c.requires.left_in) (rw c.in-Int16-right.is at c.requires.right_in) c.compare_number_windows-in-Int16.ensures)

pub unreachable-requires-in_default-right-4 : goal.unreachable-requires-in_default-right-4
unreachable-requires-in_default-right-4 c =
    int32_case c.args.right.now (sym c.requires.one_type ∙ ap type_of c.in-Int32.is) c.in_default-right-4.not-Int32

pub compare_number_windows-requires-in-Int32 : goal.compare_number_windows-requires-in-Int32
compare_number_windows-requires-in-Int32 c = (λ a m. m, (rw c.in-Int32.is at c.requires.left_in, rw c.in-Int32-right.is at c.requires.right_in))

pub returns-in-Int32-right : goal.returns-in-Int32-right
returns-in-Int32-right c =
    rw (c.in-Int32.is, c.in-Int32-right.is)
    (number-leaves _ c.in-Int32.left c.in-Int32-right.array _ _ _ _ (rw c.in-Int32.is at c.requires.left_in) (rw c.in-Int32-right.is at c.requires.right_in) c.compare_number_windows-in-Int32.ensures)

pub unreachable-requires-in_default-right-5 : goal.unreachable-requires-in_default-right-5
unreachable-requires-in_default-right-5 c =
    int64_case c.args.right.now (sym c.requires.one_type ∙ ap type_of c.in-Int64.is) c.in_default-right-5.not-Int64

pub compare_number_windows-requires-in-Int64 : goal.compare_number_windows-requires-in-Int64
compare_number_windows-requires-in-Int64 c = (λ a m. m, (rw c.in-Int64.is at c.requires.left_in, rw c.in-Int64-right.is at c.requires.right_in))

pub returns-in-Int64-right : goal.returns-in-Int64-right
returns-in-Int64-right c =
    rw (c.in-Int64.is, c.in-Int64-right.is)
    (number-leaves _ c.in-Int64.left c.in-Int64-right.array _ _ _ _ (rw c.in-Int64.is at c.requires.left_in) (rw c.in-Int64-right.is at c.requires.right_in) c.compare_number_windows-in-Int64.ensures)

pub unreachable-requires-in_default-right-6 : goal.unreachable-requires-in_default-right-6
unreachable-requires-in_default-right-6 c =
    int128_case c.args.right.now (sym c.requires.one_type ∙ ap type_of c.in-Int128.is) c.in_default-right-6.not-Int128

pub compare_number_windows-requires-in-Int128 : goal.compare_number_windows-requires-in-Int128
compare_number_windows-requires-in-Int128 c = (λ a m. m, (rw c.in-Int128.is at c.requires.left_in, rw c.in-Int128-right.is at c.requires.right_in))

pub returns-in-Int128-right : goal.returns-in-Int128-right
returns-in-Int128-right c =
    rw (c.in-Int128.is, c.in-Int128-right.is)
    (number-leaves _ c.in-Int128.left c.in-Int128-right.array _ _ _ _ (rw c.in-Int128.is at c.requires.left_in) (rw c.in-Int128-right.is at c.requires.right_in) c.compare_number_windows-in-Int128.ensures)

pub unreachable-requires-in_default-right-7 : goal.unreachable-requires-in_default-right-7
unreachable-requires-in_default-right-7 c =
    uint8_case c.args.right.now (sym c.requires.one_type ∙ ap type_of c.in-UInt8.is) c.in_default-right-7.not-UInt8

pub compare_number_windows-requires-in-UInt8 : goal.compare_number_windows-requires-in-UInt8
compare_number_windows-requires-in-UInt8 c = (λ a m. m, (rw c.in-UInt8.is at c.requires.left_in, rw c.in-UInt8-right.is at c.requires.right_in))

pub returns-in-UInt8-right : goal.returns-in-UInt8-right
returns-in-UInt8-right c =
    rw (c.in-UInt8.is, c.in-UInt8-right.is)
    (number-leaves _ c.in-UInt8.left c.in-UInt8-right.array _ _ _ _ (rw c.in-UInt8.is at c.requires.left_in) (rw c.in-UInt8-right.is at c.requires.right_in) c.compare_number_windows-in-UInt8.ensures)

pub unreachable-requires-in_default-right-8 : goal.unreachable-requires-in_default-right-8
unreachable-requires-in_default-right-8 c =
    uint16_case c.args.right.now (sym c.requires.one_type ∙ ap type_of c.in-UInt16.is) c.in_default-right-8.not-UInt16

pub compare_number_windows-requires-in-UInt16 : goal.compare_number_windows-requires-in-UInt16
compare_number_windows-requires-in-UInt16 c = (λ a m. m, (rw c.in-UInt16.is at c.requires.left_in, rw c.in-UInt16-right.is at c.requires.right_in))

pub returns-in-UInt16-right : goal.returns-in-UInt16-right
returns-in-UInt16-right c =
    rw (c.in-UInt16.is, c.in-UInt16-right.is)
    (number-leaves _ c.in-UInt16.left c.in-UInt16-right.array _ _ _ _ (rw c.in-UInt16.is at c.requires.left_in) (rw c.in-UInt16-right.is at c.requires.right_in) c.compare_number_windows-in-UInt16.ensures)

pub unreachable-requires-in_default-right-9 : goal.unreachable-requires-in_default-right-9
unreachable-requires-in_default-right-9 c =
    uint32_case c.args.right.now (sym c.requires.one_type ∙ ap type_of c.in-UInt32.is) c.in_default-right-9.not-UInt32

pub compare_number_windows-requires-in-UInt32 : goal.compare_number_windows-requires-in-UInt32
compare_number_windows-requires-in-UInt32 c = (λ a m. m, (rw c.in-UInt32.is at c.requires.left_in, rw c.in-UInt32-right.is at c.requires.right_in))

pub returns-in-UInt32-right : goal.returns-in-UInt32-right
returns-in-UInt32-right c =
    rw (c.in-UInt32.is, c.in-UInt32-right.is)
    (number-leaves _ c.in-UInt32.left c.in-UInt32-right.array _ _ _ _ (rw c.in-UInt32.is at c.requires.left_in) (rw c.in-UInt32-right.is at c.requires.right_in) c.compare_number_windows-in-UInt32.ensures)

pub unreachable-requires-in_default-right-10 : goal.unreachable-requires-in_default-right-10
unreachable-requires-in_default-right-10 c =
    uint64_case c.args.right.now (sym c.requires.one_type ∙ ap type_of c.in-UInt64.is) c.in_default-right-10.not-UInt64

pub compare_number_windows-requires-in-UInt64 : goal.compare_number_windows-requires-in-UInt64
compare_number_windows-requires-in-UInt64 c = (λ a m. m, (rw c.in-UInt64.is at c.requires.left_in, rw c.in-UInt64-right.is at c.requires.right_in))

pub returns-in-UInt64-right : goal.returns-in-UInt64-right
returns-in-UInt64-right c =
    rw (c.in-UInt64.is, c.in-UInt64-right.is)
    (number-leaves _ c.in-UInt64.left c.in-UInt64-right.array _ _ _ _ (rw c.in-UInt64.is at c.requires.left_in) (rw c.in-UInt64-right.is at c.requires.right_in) c.compare_number_windows-in-UInt64.ensures)

pub unreachable-requires-in_default-right-11 : goal.unreachable-requires-in_default-right-11
unreachable-requires-in_default-right-11 c =
    uint128_case c.args.right.now (sym c.requires.one_type ∙ ap type_of c.in-UInt128.is) c.in_default-right-11.not-UInt128

pub compare_number_windows-requires-in-UInt128 : goal.compare_number_windows-requires-in-UInt128
compare_number_windows-requires-in-UInt128 c = (λ a m. m, (rw c.in-UInt128.is at c.requires.left_in, rw c.in-UInt128-right.is at c.requires.right_in))

pub returns-in-UInt128-right : goal.returns-in-UInt128-right
returns-in-UInt128-right c =
    rw (c.in-UInt128.is, c.in-UInt128-right.is)
    (number-leaves _ c.in-UInt128.left c.in-UInt128-right.array _ _ _ _ (rw c.in-UInt128.is at c.requires.left_in) (rw c.in-UInt128-right.is at c.requires.right_in) c.compare_number_windows-in-UInt128.ensures)

pub unreachable-requires-in_default-right-12 : goal.unreachable-requires-in_default-right-12
unreachable-requires-in_default-right-12 c =
    binary_case c.args.right.now (sym c.requires.one_type ∙ ap type_of c.in-Binary.is) c.in_default-right-12.not-Binary

pub eq_strings-requires : goal.eq_strings-requires
eq_strings-requires c = (λ a m. m, (rw c.in-Binary.is at c.requires.left_in, rw c.in-Binary-right.is at c.requires.right_in))

pub returns-in-Binary-right : goal.returns-in-Binary-right
returns-in-Binary-right c = rw (c.in-Binary.is, c.in-Binary-right.is) c.eq_strings.ensures

pub unreachable-requires-in_default-right-13 : goal.unreachable-requires-in_default-right-13
unreachable-requires-in_default-right-13 c =
    large_binary_case c.args.right.now (sym c.requires.one_type ∙ ap type_of c.in-LargeBinary.is) c.in_default-right-13.not-LargeBinary

pub eq_strings-requires-in-LargeBinary : goal.eq_strings-requires-in-LargeBinary
eq_strings-requires-in-LargeBinary c = (λ a m. m, (rw c.in-LargeBinary.is at c.requires.left_in, rw c.in-LargeBinary-right.is at c.requires.right_in))

pub returns-in-LargeBinary-right : goal.returns-in-LargeBinary-right
returns-in-LargeBinary-right c = rw (c.in-LargeBinary.is, c.in-LargeBinary-right.is) c.eq_strings-in-LargeBinary.ensures

pub unreachable-requires-in_default-right-14 : goal.unreachable-requires-in_default-right-14
unreachable-requires-in_default-right-14 c =
    utf8_case c.args.right.now (sym c.requires.one_type ∙ ap type_of c.in-Utf8.is) c.in_default-right-14.not-Utf8

pub utf8_windows-requires : goal.utf8_windows-requires
utf8_windows-requires c = (λ a m. m, (rw c.in-Utf8.is at c.requires.left_in, rw c.in-Utf8-right.is at c.requires.right_in))

pub returns-in-Utf8-right : goal.returns-in-Utf8-right
returns-in-Utf8-right c = rw (c.in-Utf8.is, c.in-Utf8-right.is) c.utf8_windows.ensures

pub unreachable-requires-in_default-right-15 : goal.unreachable-requires-in_default-right-15
unreachable-requires-in_default-right-15 c =
    large_utf8_case c.args.right.now (sym c.requires.one_type ∙ ap type_of c.in-LargeUtf8.is) c.in_default-right-15.not-LargeUtf8

pub utf8_windows-requires-in-LargeUtf8 : goal.utf8_windows-requires-in-LargeUtf8
utf8_windows-requires-in-LargeUtf8 c = (λ a m. m, (rw c.in-LargeUtf8.is at c.requires.left_in, rw c.in-LargeUtf8-right.is at c.requires.right_in))

pub returns-in-LargeUtf8-right : goal.returns-in-LargeUtf8-right
returns-in-LargeUtf8-right c = rw (c.in-LargeUtf8.is, c.in-LargeUtf8-right.is) c.utf8_windows-in-LargeUtf8.ensures

pub unreachable-requires-in_default-right-16 : goal.unreachable-requires-in_default-right-16
unreachable-requires-in_default-right-16 c =
    binary_view_case c.args.right.now (sym c.requires.one_type ∙ ap type_of c.in-BinaryView.is) c.in_default-right-16.not-BinaryView

pub eq_views-requires-clause-left_in : goal.eq_views-requires-clause-left_in
eq_views-requires-clause-left_in c = rw c.in-BinaryView.is at c.requires.left_in

pub eq_views-requires-clause-right_in : goal.eq_views-requires-clause-right_in
eq_views-requires-clause-right_in c = rw c.in-BinaryView-right.is at c.requires.right_in

pub returns-in-BinaryView-right : goal.returns-in-BinaryView-right
returns-in-BinaryView-right c = rw (c.in-BinaryView.is, c.in-BinaryView-right.is) c.eq_views.ensures

pub unreachable-requires-in_default-right-17 : goal.unreachable-requires-in_default-right-17
unreachable-requires-in_default-right-17 c =
    utf8_view_case c.args.right.now (sym c.requires.one_type ∙ ap type_of c.in-Utf8View.is) c.in_default-right-17.not-Utf8View

pub text_windows-requires-clause-left_in : goal.text_windows-requires-clause-left_in
text_windows-requires-clause-left_in c = rw c.in-Utf8View.is at c.requires.left_in

pub text_windows-requires-clause-right_in : goal.text_windows-requires-clause-right_in
text_windows-requires-clause-right_in c = rw c.in-Utf8View-right.is at c.requires.right_in

pub returns-in-Utf8View-right : goal.returns-in-Utf8View-right
returns-in-Utf8View-right c = rw (c.in-Utf8View.is, c.in-Utf8View-right.is) c.text_windows.ensures

pub unreachable-requires-in_default-right-18 : goal.unreachable-requires-in_default-right-18
unreachable-requires-in_default-right-18 c =
    let sized : IsTrue (is_sized (type_of c.args.left.now)) = rw c.in-FixedSizeBinary.is refl in
    fixed_size_binary_case c.args.right.now (rw c.requires.one_type at sized) c.in_default-right-18.not-FixedSizeBinary

pub eq_sized_strings-requires-clause-left_in : goal.eq_sized_strings-requires-clause-left_in
eq_sized_strings-requires-clause-left_in c = rw c.in-FixedSizeBinary.is at c.requires.left_in

pub eq_sized_strings-requires-clause-right_in : goal.eq_sized_strings-requires-clause-right_in
eq_sized_strings-requires-clause-right_in c = rw c.in-FixedSizeBinary-right.is at c.requires.right_in

pub returns-in-FixedSizeBinary-right : goal.returns-in-FixedSizeBinary-right
returns-in-FixedSizeBinary-right c = rw (c.in-FixedSizeBinary.is, c.in-FixedSizeBinary-right.is) c.eq_sized_strings.ensures

pub unreachable-requires-in_default : goal.unreachable-requires-in_default
unreachable-requires-in_default c =
    leaves_case c.args.left.now c.requires.leaves c.in_default.not-Boolean c.in_default.not-Int8 c.in_default.not-Int16 c.in_default.not-Int32 c.in_default.not-Int64 c.in_default.not-Int128 c.in_default.not-UInt8 c.in_default.not-UInt16 c.in_default.not-UInt32 c.in_default.not-UInt64 c.in_default.not-UInt128 c.in_default.not-Binary c.in_default.not-LargeBinary c.in_default.not-Utf8 c.in_default.not-LargeUtf8 c.in_default.not-BinaryView c.in_default.not-Utf8View c.in_default.not-FixedSizeBinary
