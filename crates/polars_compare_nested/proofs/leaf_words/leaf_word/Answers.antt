use Rattle.std.proofs.Common.{◌∙◌, ap, sym}
use Rattle.polars_arrays_nested.specs.Types.{type_of}
use Rattle.polars_compare_nested.proofs.Cases.{int128_case, int16_case, int32_case, int64_case, int8_case, uint128_case, uint16_case, uint32_case, uint64_case, uint8_case}
use Rattle.polars_compare_nested.proofs.leaf_words.leaf_word.Goals as goal

pub unreachable-requires : goal.unreachable-requires
unreachable-requires c =
    int8_case c.args.right.now (sym c.requires.one_type ∙ ap type_of c.in-Int8.is) c.in_default-right.not-Int8

pub number_word-requires : goal.number_word-requires
number_word-requires c = (λ a m. m, (rw c.in-Int8.is at c.requires.left_in, (rw c.in-Int8-right.is at c.requires.right_in, c.requires.few)))

pub returns-in-Int8-right : goal.returns-in-Int8-right
returns-in-Int8-right c = rw (c.in-Int8.is, c.in-Int8-right.is) c.number_word.ensures

pub unreachable-requires-in_default-right-2 : goal.unreachable-requires-in_default-right-2
unreachable-requires-in_default-right-2 c =
    int16_case c.args.right.now (sym c.requires.one_type ∙ ap type_of c.in-Int16.is) c.in_default-right-2.not-Int16

pub number_word-requires-in-Int16 : goal.number_word-requires-in-Int16
number_word-requires-in-Int16 c = (λ a m. m, (rw c.in-Int16.is at c.requires.left_in, (rw c.in-Int16-right.is at c.requires.right_in, c.requires.few)))

pub returns-in-Int16-right : goal.returns-in-Int16-right
returns-in-Int16-right c = rw (c.in-Int16.is, c.in-Int16-right.is) c.number_word-in-Int16.ensures

pub unreachable-requires-in_default-right-3 : goal.unreachable-requires-in_default-right-3
unreachable-requires-in_default-right-3 c =
    int32_case c.args.right.now (sym c.requires.one_type ∙ ap type_of c.in-Int32.is) c.in_default-right-3.not-Int32

pub number_word-requires-in-Int32 : goal.number_word-requires-in-Int32
number_word-requires-in-Int32 c = (λ a m. m, (rw c.in-Int32.is at c.requires.left_in, (rw c.in-Int32-right.is at c.requires.right_in, c.requires.few)))

pub returns-in-Int32-right : goal.returns-in-Int32-right
returns-in-Int32-right c = rw (c.in-Int32.is, c.in-Int32-right.is) c.number_word-in-Int32.ensures

pub unreachable-requires-in_default-right-4 : goal.unreachable-requires-in_default-right-4
unreachable-requires-in_default-right-4 c =
    int64_case c.args.right.now (sym c.requires.one_type ∙ ap type_of c.in-Int64.is) c.in_default-right-4.not-Int64

pub number_word-requires-in-Int64 : goal.number_word-requires-in-Int64
number_word-requires-in-Int64 c = (λ a m. m, (rw c.in-Int64.is at c.requires.left_in, (rw c.in-Int64-right.is at c.requires.right_in, c.requires.few)))

pub returns-in-Int64-right : goal.returns-in-Int64-right
returns-in-Int64-right c = rw (c.in-Int64.is, c.in-Int64-right.is) c.number_word-in-Int64.ensures

pub unreachable-requires-in_default-right-5 : goal.unreachable-requires-in_default-right-5
unreachable-requires-in_default-right-5 c =
    int128_case c.args.right.now (sym c.requires.one_type ∙ ap type_of c.in-Int128.is) c.in_default-right-5.not-Int128

pub number_word-requires-in-Int128 : goal.number_word-requires-in-Int128
number_word-requires-in-Int128 c = (λ a m. m, (rw c.in-Int128.is at c.requires.left_in, (rw c.in-Int128-right.is at c.requires.right_in, c.requires.few)))

pub returns-in-Int128-right : goal.returns-in-Int128-right
returns-in-Int128-right c = rw (c.in-Int128.is, c.in-Int128-right.is) c.number_word-in-Int128.ensures

pub unreachable-requires-in_default-right-6 : goal.unreachable-requires-in_default-right-6
unreachable-requires-in_default-right-6 c =
    uint8_case c.args.right.now (sym c.requires.one_type ∙ ap type_of c.in-UInt8.is) c.in_default-right-6.not-UInt8

pub number_word-requires-in-UInt8 : goal.number_word-requires-in-UInt8
number_word-requires-in-UInt8 c = (λ a m. m, (rw c.in-UInt8.is at c.requires.left_in, (rw c.in-UInt8-right.is at c.requires.right_in, c.requires.few)))

pub returns-in-UInt8-right : goal.returns-in-UInt8-right
returns-in-UInt8-right c = rw (c.in-UInt8.is, c.in-UInt8-right.is) c.number_word-in-UInt8.ensures

pub unreachable-requires-in_default-right-7 : goal.unreachable-requires-in_default-right-7
unreachable-requires-in_default-right-7 c =
    uint16_case c.args.right.now (sym c.requires.one_type ∙ ap type_of c.in-UInt16.is) c.in_default-right-7.not-UInt16

pub number_word-requires-in-UInt16 : goal.number_word-requires-in-UInt16
number_word-requires-in-UInt16 c = (λ a m. m, (rw c.in-UInt16.is at c.requires.left_in, (rw c.in-UInt16-right.is at c.requires.right_in, c.requires.few)))

pub returns-in-UInt16-right : goal.returns-in-UInt16-right
returns-in-UInt16-right c = rw (c.in-UInt16.is, c.in-UInt16-right.is) c.number_word-in-UInt16.ensures

pub unreachable-requires-in_default-right-8 : goal.unreachable-requires-in_default-right-8
unreachable-requires-in_default-right-8 c =
    uint32_case c.args.right.now (sym c.requires.one_type ∙ ap type_of c.in-UInt32.is) c.in_default-right-8.not-UInt32

pub number_word-requires-in-UInt32 : goal.number_word-requires-in-UInt32
number_word-requires-in-UInt32 c = (λ a m. m, (rw c.in-UInt32.is at c.requires.left_in, (rw c.in-UInt32-right.is at c.requires.right_in, c.requires.few)))

pub returns-in-UInt32-right : goal.returns-in-UInt32-right
returns-in-UInt32-right c = rw (c.in-UInt32.is, c.in-UInt32-right.is) c.number_word-in-UInt32.ensures

pub unreachable-requires-in_default-right-9 : goal.unreachable-requires-in_default-right-9
unreachable-requires-in_default-right-9 c =
    uint64_case c.args.right.now (sym c.requires.one_type ∙ ap type_of c.in-UInt64.is) c.in_default-right-9.not-UInt64

pub number_word-requires-in-UInt64 : goal.number_word-requires-in-UInt64
number_word-requires-in-UInt64 c = (λ a m. m, (rw c.in-UInt64.is at c.requires.left_in, (rw c.in-UInt64-right.is at c.requires.right_in, c.requires.few)))

pub returns-in-UInt64-right : goal.returns-in-UInt64-right
returns-in-UInt64-right c = rw (c.in-UInt64.is, c.in-UInt64-right.is) c.number_word-in-UInt64.ensures

pub unreachable-requires-in_default-right-10 : goal.unreachable-requires-in_default-right-10
unreachable-requires-in_default-right-10 c =
    uint128_case c.args.right.now (sym c.requires.one_type ∙ ap type_of c.in-UInt128.is) c.in_default-right-10.not-UInt128

pub number_word-requires-in-UInt128 : goal.number_word-requires-in-UInt128
number_word-requires-in-UInt128 c = (λ a m. m, (rw c.in-UInt128.is at c.requires.left_in, (rw c.in-UInt128-right.is at c.requires.right_in, c.requires.few)))

pub returns-in-UInt128-right : goal.returns-in-UInt128-right
returns-in-UInt128-right c = rw (c.in-UInt128.is, c.in-UInt128-right.is) c.number_word-in-UInt128.ensures
