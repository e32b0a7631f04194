use Rattle.std.proofs.Common.{SFits, refl, rules}
use Rattle.std.specs.Int.{w8, w16, w32, w64, w128}
use Rattle.std.proofs.lemmas.Int.{to_z-of_z}
use Rattle.polars_compare_extremes.proofs.ListKinds.{lists_have_none}
use Rattle.polars_compare_extremes.proofs.dispatch.any_extreme.Goals as goal

pub returns-in-Some : goal.returns-in-Some
returns-in-Some c = rw c.in-Boolean.is (refl, (refl, c.in-Some.ensures))

pub returns-in-None : goal.returns-in-None
returns-in-None c = rw c.in-Boolean.is (refl, c.in-None.ensures)

-- a signed number that was found is written and read back as it is: that it fits its type is in the type's invariant
pub returns-in-Some-number_extreme : goal.returns-in-Some-number_extreme
returns-in-Some-number_extreme c =
    let fits : SFits w8 c.in-Some-number_extreme.found = search rules in
    rw (c.in-Int8.is, to_z-of_z w8 c.in-Some-number_extreme.found fits) (refl, (refl, c.in-Some-number_extreme.ensures))

pub returns-in-None-number_extreme : goal.returns-in-None-number_extreme
returns-in-None-number_extreme c = rw c.in-Int8.is (refl, c.in-None-number_extreme.ensures)

pub returns-in-Some-number_extreme-2 : goal.returns-in-Some-number_extreme-2
returns-in-Some-number_extreme-2 c =
    let fits : SFits w16 c.in-Some-number_extreme-2.found = search rules in
    rw (c.in-Int16.is, to_z-of_z w16 c.in-Some-number_extreme-2.found fits) (refl, (refl, c.in-Some-number_extreme-2.ensures))

pub returns-in-None-number_extreme-2 : goal.returns-in-None-number_extreme-2
returns-in-None-number_extreme-2 c = rw c.in-Int16.is (refl, c.in-None-number_extreme-2.ensures)

pub returns-in-Some-number_extreme-3 : goal.returns-in-Some-number_extreme-3
returns-in-Some-number_extreme-3 c =
    let fits : SFits w32 c.in-Some-number_extreme-3.found = search rules in
    rw (c.in-Int32.is, to_z-of_z w32 c.in-Some-number_extreme-3.found fits) (refl, (refl, c.in-Some-number_extreme-3.ensures))

pub returns-in-None-number_extreme-3 : goal.returns-in-None-number_extreme-3
returns-in-None-number_extreme-3 c = rw c.in-Int32.is (refl, c.in-None-number_extreme-3.ensures)

pub returns-in-Some-number_extreme-4 : goal.returns-in-Some-number_extreme-4
returns-in-Some-number_extreme-4 c =
    let fits : SFits w64 c.in-Some-number_extreme-4.found = search rules in
    rw (c.in-Int64.is, to_z-of_z w64 c.in-Some-number_extreme-4.found fits) (refl, (refl, c.in-Some-number_extreme-4.ensures))

pub returns-in-None-number_extreme-4 : goal.returns-in-None-number_extreme-4
returns-in-None-number_extreme-4 c = rw c.in-Int64.is (refl, c.in-None-number_extreme-4.ensures)

pub returns-in-Some-number_extreme-5 : goal.returns-in-Some-number_extreme-5
returns-in-Some-number_extreme-5 c =
    let fits : SFits w128 c.in-Some-number_extreme-5.found = search rules in
    rw (c.in-Int128.is, to_z-of_z w128 c.in-Some-number_extreme-5.found fits) (refl, (refl, c.in-Some-number_extreme-5.ensures))

pub returns-in-None-number_extreme-5 : goal.returns-in-None-number_extreme-5
returns-in-None-number_extreme-5 c = rw c.in-Int128.is (refl, c.in-None-number_extreme-5.ensures)

pub returns-in-Some-number_extreme-6 : goal.returns-in-Some-number_extreme-6
returns-in-Some-number_extreme-6 c = rw c.in-UInt8.is (refl, (refl, c.in-Some-number_extreme-6.ensures))

pub returns-in-None-number_extreme-6 : goal.returns-in-None-number_extreme-6
returns-in-None-number_extreme-6 c = rw c.in-UInt8.is (refl, c.in-None-number_extreme-6.ensures)

pub returns-in-Some-number_extreme-7 : goal.returns-in-Some-number_extreme-7
returns-in-Some-number_extreme-7 c = rw c.in-UInt16.is (refl, (refl, c.in-Some-number_extreme-7.ensures))

pub returns-in-None-number_extreme-7 : goal.returns-in-None-number_extreme-7
returns-in-None-number_extreme-7 c = rw c.in-UInt16.is (refl, c.in-None-number_extreme-7.ensures)

pub returns-in-Some-number_extreme-8 : goal.returns-in-Some-number_extreme-8
returns-in-Some-number_extreme-8 c = rw c.in-UInt32.is (refl, (refl, c.in-Some-number_extreme-8.ensures))

pub returns-in-None-number_extreme-8 : goal.returns-in-None-number_extreme-8
returns-in-None-number_extreme-8 c = rw c.in-UInt32.is (refl, c.in-None-number_extreme-8.ensures)

pub returns-in-Some-number_extreme-9 : goal.returns-in-Some-number_extreme-9
returns-in-Some-number_extreme-9 c = rw c.in-UInt64.is (refl, (refl, c.in-Some-number_extreme-9.ensures))

pub returns-in-None-number_extreme-9 : goal.returns-in-None-number_extreme-9
returns-in-None-number_extreme-9 c = rw c.in-UInt64.is (refl, c.in-None-number_extreme-9.ensures)

pub returns-in-Some-number_extreme-10 : goal.returns-in-Some-number_extreme-10
returns-in-Some-number_extreme-10 c = rw c.in-UInt128.is (refl, (refl, c.in-Some-number_extreme-10.ensures))

pub returns-in-None-number_extreme-10 : goal.returns-in-None-number_extreme-10
returns-in-None-number_extreme-10 c = rw c.in-UInt128.is (refl, c.in-None-number_extreme-10.ensures)

pub returns-in-Some-bytes_extreme : goal.returns-in-Some-bytes_extreme
returns-in-Some-bytes_extreme c = rw c.in-Binary.is (refl, (refl, c.in-Some-bytes_extreme.ensures))

pub returns-in-None-bytes_extreme : goal.returns-in-None-bytes_extreme
returns-in-None-bytes_extreme c = rw c.in-Binary.is (refl, c.in-None-bytes_extreme.ensures)

pub returns-in-Some-bytes_extreme-2 : goal.returns-in-Some-bytes_extreme-2
returns-in-Some-bytes_extreme-2 c = rw c.in-LargeBinary.is (refl, (refl, c.in-Some-bytes_extreme-2.ensures))

pub returns-in-None-bytes_extreme-2 : goal.returns-in-None-bytes_extreme-2
returns-in-None-bytes_extreme-2 c = rw c.in-LargeBinary.is (refl, c.in-None-bytes_extreme-2.ensures)

pub returns-in-Some-text_extreme : goal.returns-in-Some-text_extreme
returns-in-Some-text_extreme c = rw c.in-Utf8.is (refl, (refl, c.in-Some-text_extreme.ensures))

pub returns-in-None-text_extreme : goal.returns-in-None-text_extreme
returns-in-None-text_extreme c = rw c.in-Utf8.is (refl, c.in-None-text_extreme.ensures)

pub returns-in-Some-text_extreme-2 : goal.returns-in-Some-text_extreme-2
returns-in-Some-text_extreme-2 c = rw c.in-LargeUtf8.is (refl, (refl, c.in-Some-text_extreme-2.ensures))

pub returns-in-None-text_extreme-2 : goal.returns-in-None-text_extreme-2
returns-in-None-text_extreme-2 c = rw c.in-LargeUtf8.is (refl, c.in-None-text_extreme-2.ensures)

pub returns-in-Some-view_extreme : goal.returns-in-Some-view_extreme
returns-in-Some-view_extreme c = rw c.in-BinaryView.is (refl, (refl, c.in-Some-view_extreme.ensures))

pub returns-in-None-view_extreme : goal.returns-in-None-view_extreme
returns-in-None-view_extreme c = rw c.in-BinaryView.is (refl, c.in-None-view_extreme.ensures)

pub returns-in-Some-text_view_extreme : goal.returns-in-Some-text_view_extreme
returns-in-Some-text_view_extreme c = rw c.in-Utf8View.is (refl, (refl, c.in-Some-text_view_extreme.ensures))

pub returns-in-None-text_view_extreme : goal.returns-in-None-text_view_extreme
returns-in-None-text_view_extreme c = rw c.in-Utf8View.is (refl, c.in-None-text_view_extreme.ensures)

pub returns-in-Null : goal.returns-in-Null
returns-in-Null c = rw c.in-Null.is (refl, refl)

pub returns-in-FixedSizeBinary : goal.returns-in-FixedSizeBinary
returns-in-FixedSizeBinary c = rw c.in-FixedSizeBinary.is (refl, refl)

pub returns-in-List : goal.returns-in-List
returns-in-List c = rw c.in-List.is (lists_have_none _ _, refl)

pub returns-in-FixedSizeList : goal.returns-in-FixedSizeList
returns-in-FixedSizeList c = rw c.in-FixedSizeList.is (refl, refl)

pub returns-in-Struct : goal.returns-in-Struct
returns-in-Struct c = rw c.in-Struct.is (refl, refl)

pub returns-in-Dictionary : goal.returns-in-Dictionary
returns-in-Dictionary c = rw c.in-Dictionary.is (refl, refl)
