use Rattle.std.proofs.Common.{◌≡◌, ◌+◌, ◌≤◌, ◌<◌, pos, length, get_or, arith, rules, refl, ◌∙◌, sym, subst}
use Rattle.std.proofs.lemmas.List.{length-set}
use Rattle.polars_arrays_nested.specs.GoodParts.{IsGood}
use Rattle.polars_arrays_nested.specs.Lengths.{len_of}
use Rattle.polars_arrays_nested.specs.ColumnLaws.{good-struct}
use Rattle.polars_arrays_nested.specs.Parts.{columns, struct_fields, struct_validity}
use Rattle.polars_arrays_nested.proofs.Cuts.{cut-fixed, cut-nulls, cut-numbers, cut-sized, cut-strings, cut-truths, cut-views, cut-struct, cuts-more, column_good, unvisited-more}
use Rattle.polars_arrays_nested.proofs.Windows.{reaches}
use Rattle.polars_arrays_nested.specs.declared.any_array.AnyArray.{Boolean, Int8, Int16, Int32, Int64, Int128, UInt8, UInt16, UInt32, UInt64, UInt128, Binary, LargeBinary, Utf8, LargeUtf8, BinaryView, Utf8View, the_lemmas}
use Rattle.polars_arrays_nested.proofs.+slices.Goals as goal

pub fixed_size_list::FixedSizeListArray::slice-slice_validity-requires :
    goal.fixed_size_list::FixedSizeListArray::slice-slice_validity-requires
fixed_size_list::FixedSizeListArray::slice-slice_validity-requires t c =
    reaches _ _ c.args.self.now.validity c.requires.good.0.bits c.requires.within

pub fixed_size_list::FixedSizeListArray::slice-returns :
    goal.fixed_size_list::FixedSizeListArray::slice-returns
fixed_size_list::FixedSizeListArray::slice-returns t c =
    cut-fixed _ c.args.self.now c.args.at c.args.n c.requires.good c.requires.within refl refl (rw c.deref_mut.ensures.value at c.slice.ensures) c.slice_validity.ensures.bits

pub struct_array::StructArray::slice-slice-requires :
    goal.struct_array::StructArray::slice-slice-requires
struct_array::StructArray::slice-slice-requires t c =
    let s = c.args.self.now in
    let x = c.index_mut.result.now in
    let i = c.loop-i.i in
    let e : x ≡ get_or (columns s) i x = c.index_mut.ensures.value ∙ c.loop-i.invariant.0.1 i x (omega arith) in
    let low : i < length (columns s) = omega arith in
    let known = column_good (struct_fields s) s.len (columns s) (good-struct s c.requires.good).1 i x low in
    let good : IsGood x = subst IsGood (sym e) known.0 in
    let within : c.args.at + c.args.n ≤ len_of x = subst (λ y. c.args.at + c.args.n ≤ len_of y) (sym e) (omega (arith, known.1, c.requires.within)) in
    (search (rules, the_lemmas), (good, within))

pub struct_array::StructArray::slice-slice_validity-requires :
    goal.struct_array::StructArray::slice-slice_validity-requires
struct_array::StructArray::slice-slice_validity-requires t c =
    rw c.loop-i.invariant.4 (reaches _ _ (struct_validity c.args.self.now) c.requires.good.0 c.requires.within)

pub struct_array::StructArray::slice-returns : goal.struct_array::StructArray::slice-returns
struct_array::StructArray::slice-returns t c =
    cut-struct _ c.args.self.now c.args.at c.args.n c.requires.good c.requires.within c.loop-i.invariant.3 refl c.loop-i.invariant.1
    (λ k d low. c.loop-i.invariant.2 k d (omega arith))
    (rw c.loop-i.invariant.4 at c.slice_validity.ensures.bits)

pub struct_array::StructArray::slice-loop-i-preserved :
    goal.struct_array::StructArray::slice-loop-i-preserved
struct_array::StructArray::slice-loop-i-preserved t c =
    let i = c.loop-i.i in
    let x = c.index_mut.result.now in
    let xs = columns c.loop-i.self in
    let zs = columns c.args.self.now in
    let new = c.slice.new.self in
    let low : i < length zs = omega arith in
    let was : x ≡ get_or zs i x = c.index_mut.ensures.value ∙ c.loop-i.invariant.0.1 i x (omega arith) in
    let many = length-set xs i new ∙ c.loop-i.invariant.1 in (
      (many, unvisited-more xs zs i new c.loop-i.invariant.0.1),
      many,
      cuts-more xs zs i new x c.args.at c.args.n c.loop-i.invariant.1 low was c.slice.ensures c.loop-i.invariant.2,
      c.loop-i.invariant.3,
      c.loop-i.invariant.4,
    )

pub any_array::AnyArray::slice-returns-in-Null : goal.any_array::AnyArray::slice-returns-in-Null
unfolding Rattle.polars_arrays_nested.specs.declared.any_array.AnyArray.TheViews.out-AnyArray denote.Hole.Carrier.out
any_array::AnyArray::slice-returns-in-Null t c =
    rw c.in-Null.is (cut-nulls c.slice.new.self c.in-Null.array c.args.at c.args.n c.slice.ensures.stored)

pub any_array::AnyArray::slice-returns-in-Boolean : goal.any_array::AnyArray::slice-returns-in-Boolean
unfolding Rattle.polars_arrays_nested.specs.declared.any_array.AnyArray.TheViews.out-AnyArray denote.Hole.Carrier.out
any_array::AnyArray::slice-returns-in-Boolean t c =
    let rows = rw c.in-Boolean.array-is at c.slice-in-Boolean.ensures.rows in
    let stored = rw c.in-Boolean.array-is at c.slice-in-Boolean.ensures.stored in
    rw c.in-Boolean.is (cut-truths Boolean (record { as_long = λ a. refl; row_is = λ a i. refl; leaves_are = λ a i m. refl; one_type = λ a b. refl; alike = λ a b i j m. tt; good = λ a. tt }) c.slice-in-Boolean.new.self c.in-Boolean.array c.args.at c.args.n (rw c.in-Boolean.is at c.requires.within) stored rows)

pub any_array::AnyArray::slice-returns-in-Int8 : goal.any_array::AnyArray::slice-returns-in-Int8
unfolding Rattle.polars_arrays_nested.specs.declared.any_array.AnyArray.TheViews.out-AnyArray denote.Hole.Carrier.out
any_array::AnyArray::slice-returns-in-Int8 t c =
    let rows = rw c.in-Int8.array-is at c.slice-in-Int8.ensures.rows in
    let stored = rw c.in-Int8.array-is at c.slice-in-Int8.ensures.stored in
    rw c.in-Int8.is (cut-numbers (λ x. x) Int8 (record { as_long = λ a. refl; row_is = λ a i. refl; leaves_are = λ a i m. refl; one_type = λ a b. refl; alike = λ a b i j m. tt; good = λ a. tt }) c.slice-in-Int8.new.self c.in-Int8.array c.args.at c.args.n (rw c.in-Int8.is at c.requires.within) stored rows)

pub any_array::AnyArray::slice-returns-in-Int16 : goal.any_array::AnyArray::slice-returns-in-Int16
unfolding Rattle.polars_arrays_nested.specs.declared.any_array.AnyArray.TheViews.out-AnyArray denote.Hole.Carrier.out
any_array::AnyArray::slice-returns-in-Int16 t c =
    let rows = rw c.in-Int16.array-is at c.slice-in-Int16.ensures.rows in
    let stored = rw c.in-Int16.array-is at c.slice-in-Int16.ensures.stored in
    rw c.in-Int16.is (cut-numbers (λ x. x) Int16 (record { as_long = λ a. refl; row_is = λ a i. refl; leaves_are = λ a i m. refl; one_type = λ a b. refl; alike = λ a b i j m. tt; good = λ a. tt }) c.slice-in-Int16.new.self c.in-Int16.array c.args.at c.args.n (rw c.in-Int16.is at c.requires.within) stored rows)

pub any_array::AnyArray::slice-returns-in-Int32 : goal.any_array::AnyArray::slice-returns-in-Int32
unfolding Rattle.polars_arrays_nested.specs.declared.any_array.AnyArray.TheViews.out-AnyArray denote.Hole.Carrier.out
any_array::AnyArray::slice-returns-in-Int32 t c =
    let rows = rw c.in-Int32.array-is at c.slice-in-Int32.ensures.rows in
    let stored = rw c.in-Int32.array-is at c.slice-in-Int32.ensures.stored in
    rw c.in-Int32.is (cut-numbers (λ x. x) Int32 (record { as_long = λ a. refl; row_is = λ a i. refl; leaves_are = λ a i m. refl; one_type = λ a b. refl; alike = λ a b i j m. tt; good = λ a. tt }) c.slice-in-Int32.new.self c.in-Int32.array c.args.at c.args.n (rw c.in-Int32.is at c.requires.within) stored rows)

pub any_array::AnyArray::slice-returns-in-Int64 : goal.any_array::AnyArray::slice-returns-in-Int64
unfolding Rattle.polars_arrays_nested.specs.declared.any_array.AnyArray.TheViews.out-AnyArray denote.Hole.Carrier.out
any_array::AnyArray::slice-returns-in-Int64 t c =
    let rows = rw c.in-Int64.array-is at c.slice-in-Int64.ensures.rows in
    let stored = rw c.in-Int64.array-is at c.slice-in-Int64.ensures.stored in
    rw c.in-Int64.is (cut-numbers (λ x. x) Int64 (record { as_long = λ a. refl; row_is = λ a i. refl; leaves_are = λ a i m. refl; one_type = λ a b. refl; alike = λ a b i j m. tt; good = λ a. tt }) c.slice-in-Int64.new.self c.in-Int64.array c.args.at c.args.n (rw c.in-Int64.is at c.requires.within) stored rows)

pub any_array::AnyArray::slice-returns-in-Int128 : goal.any_array::AnyArray::slice-returns-in-Int128
unfolding Rattle.polars_arrays_nested.specs.declared.any_array.AnyArray.TheViews.out-AnyArray denote.Hole.Carrier.out
any_array::AnyArray::slice-returns-in-Int128 t c =
    let rows = rw c.in-Int128.array-is at c.slice-in-Int128.ensures.rows in
    let stored = rw c.in-Int128.array-is at c.slice-in-Int128.ensures.stored in
    rw c.in-Int128.is (cut-numbers (λ x. x) Int128 (record { as_long = λ a. refl; row_is = λ a i. refl; leaves_are = λ a i m. refl; one_type = λ a b. refl; alike = λ a b i j m. tt; good = λ a. tt }) c.slice-in-Int128.new.self c.in-Int128.array c.args.at c.args.n (rw c.in-Int128.is at c.requires.within) stored rows)

pub any_array::AnyArray::slice-returns-in-UInt8 : goal.any_array::AnyArray::slice-returns-in-UInt8
unfolding Rattle.polars_arrays_nested.specs.declared.any_array.AnyArray.TheViews.out-AnyArray denote.Hole.Carrier.out
any_array::AnyArray::slice-returns-in-UInt8 t c =
    let rows = rw c.in-UInt8.array-is at c.slice-in-UInt8.ensures.rows in
    let stored = rw c.in-UInt8.array-is at c.slice-in-UInt8.ensures.stored in
    rw c.in-UInt8.is (cut-numbers (λ x. pos x) UInt8 (record { as_long = λ a. refl; row_is = λ a i. refl; leaves_are = λ a i m. refl; one_type = λ a b. refl; alike = λ a b i j m. tt; good = λ a. tt }) c.slice-in-UInt8.new.self c.in-UInt8.array c.args.at c.args.n (rw c.in-UInt8.is at c.requires.within) stored rows)

pub any_array::AnyArray::slice-returns-in-UInt16 : goal.any_array::AnyArray::slice-returns-in-UInt16
unfolding Rattle.polars_arrays_nested.specs.declared.any_array.AnyArray.TheViews.out-AnyArray denote.Hole.Carrier.out
any_array::AnyArray::slice-returns-in-UInt16 t c =
    let rows = rw c.in-UInt16.array-is at c.slice-in-UInt16.ensures.rows in
    let stored = rw c.in-UInt16.array-is at c.slice-in-UInt16.ensures.stored in
    rw c.in-UInt16.is (cut-numbers (λ x. pos x) UInt16 (record { as_long = λ a. refl; row_is = λ a i. refl; leaves_are = λ a i m. refl; one_type = λ a b. refl; alike = λ a b i j m. tt; good = λ a. tt }) c.slice-in-UInt16.new.self c.in-UInt16.array c.args.at c.args.n (rw c.in-UInt16.is at c.requires.within) stored rows)

pub any_array::AnyArray::slice-returns-in-UInt32 : goal.any_array::AnyArray::slice-returns-in-UInt32
unfolding Rattle.polars_arrays_nested.specs.declared.any_array.AnyArray.TheViews.out-AnyArray denote.Hole.Carrier.out
any_array::AnyArray::slice-returns-in-UInt32 t c =
    let rows = rw c.in-UInt32.array-is at c.slice-in-UInt32.ensures.rows in
    let stored = rw c.in-UInt32.array-is at c.slice-in-UInt32.ensures.stored in
    rw c.in-UInt32.is (cut-numbers (λ x. pos x) UInt32 (record { as_long = λ a. refl; row_is = λ a i. refl; leaves_are = λ a i m. refl; one_type = λ a b. refl; alike = λ a b i j m. tt; good = λ a. tt }) c.slice-in-UInt32.new.self c.in-UInt32.array c.args.at c.args.n (rw c.in-UInt32.is at c.requires.within) stored rows)

pub any_array::AnyArray::slice-returns-in-UInt64 : goal.any_array::AnyArray::slice-returns-in-UInt64
unfolding Rattle.polars_arrays_nested.specs.declared.any_array.AnyArray.TheViews.out-AnyArray denote.Hole.Carrier.out
any_array::AnyArray::slice-returns-in-UInt64 t c =
    let rows = rw c.in-UInt64.array-is at c.slice-in-UInt64.ensures.rows in
    let stored = rw c.in-UInt64.array-is at c.slice-in-UInt64.ensures.stored in
    rw c.in-UInt64.is (cut-numbers (λ x. pos x) UInt64 (record { as_long = λ a. refl; row_is = λ a i. refl; leaves_are = λ a i m. refl; one_type = λ a b. refl; alike = λ a b i j m. tt; good = λ a. tt }) c.slice-in-UInt64.new.self c.in-UInt64.array c.args.at c.args.n (rw c.in-UInt64.is at c.requires.within) stored rows)

pub any_array::AnyArray::slice-returns-in-UInt128 : goal.any_array::AnyArray::slice-returns-in-UInt128
unfolding Rattle.polars_arrays_nested.specs.declared.any_array.AnyArray.TheViews.out-AnyArray denote.Hole.Carrier.out
any_array::AnyArray::slice-returns-in-UInt128 t c =
    let rows = rw c.in-UInt128.array-is at c.slice-in-UInt128.ensures.rows in
    let stored = rw c.in-UInt128.array-is at c.slice-in-UInt128.ensures.stored in
    rw c.in-UInt128.is (cut-numbers (λ x. pos x) UInt128 (record { as_long = λ a. refl; row_is = λ a i. refl; leaves_are = λ a i m. refl; one_type = λ a b. refl; alike = λ a b i j m. tt; good = λ a. tt }) c.slice-in-UInt128.new.self c.in-UInt128.array c.args.at c.args.n (rw c.in-UInt128.is at c.requires.within) stored rows)

pub any_array::AnyArray::slice-returns-in-Binary : goal.any_array::AnyArray::slice-returns-in-Binary
unfolding Rattle.polars_arrays_nested.specs.declared.any_array.AnyArray.TheViews.out-AnyArray denote.Hole.Carrier.out
any_array::AnyArray::slice-returns-in-Binary t c =
    let rows = rw c.in-Binary.array-is at c.slice-in-Binary.ensures.rows in
    let stored = rw c.in-Binary.array-is at c.slice-in-Binary.ensures.stored in
    rw c.in-Binary.is (cut-strings (λ x. x) Binary (record { as_long = λ a. refl; row_is = λ a i. refl; leaves_are = λ a i m. refl; one_type = λ a b. refl; alike = λ a b i j m. tt; good = λ a. tt }) c.slice-in-Binary.new.self c.in-Binary.array c.args.at c.args.n (rw c.in-Binary.is at c.requires.within) stored rows)

pub any_array::AnyArray::slice-returns-in-LargeBinary : goal.any_array::AnyArray::slice-returns-in-LargeBinary
unfolding Rattle.polars_arrays_nested.specs.declared.any_array.AnyArray.TheViews.out-AnyArray denote.Hole.Carrier.out
any_array::AnyArray::slice-returns-in-LargeBinary t c =
    let rows = rw c.in-LargeBinary.array-is at c.slice-in-LargeBinary.ensures.rows in
    let stored = rw c.in-LargeBinary.array-is at c.slice-in-LargeBinary.ensures.stored in
    rw c.in-LargeBinary.is (cut-strings (λ x. x) LargeBinary (record { as_long = λ a. refl; row_is = λ a i. refl; leaves_are = λ a i m. refl; one_type = λ a b. refl; alike = λ a b i j m. tt; good = λ a. tt }) c.slice-in-LargeBinary.new.self c.in-LargeBinary.array c.args.at c.args.n (rw c.in-LargeBinary.is at c.requires.within) stored rows)

pub any_array::AnyArray::slice-returns-in-Utf8 : goal.any_array::AnyArray::slice-returns-in-Utf8
unfolding Rattle.polars_arrays_nested.specs.declared.any_array.AnyArray.TheViews.out-AnyArray denote.Hole.Carrier.out
any_array::AnyArray::slice-returns-in-Utf8 t c =
    let rows = rw c.in-Utf8.array-is at c.slice-in-Utf8.ensures.rows in
    let stored = rw c.in-Utf8.array-is at c.slice-in-Utf8.ensures.stored in
    rw c.in-Utf8.is (cut-strings (λ x. x) Utf8 (record { as_long = λ a. refl; row_is = λ a i. refl; leaves_are = λ a i m. refl; one_type = λ a b. refl; alike = λ a b i j m. tt; good = λ a. tt }) c.slice-in-Utf8.new.self c.in-Utf8.array c.args.at c.args.n (rw c.in-Utf8.is at c.requires.within) stored rows)

pub any_array::AnyArray::slice-returns-in-LargeUtf8 : goal.any_array::AnyArray::slice-returns-in-LargeUtf8
unfolding Rattle.polars_arrays_nested.specs.declared.any_array.AnyArray.TheViews.out-AnyArray denote.Hole.Carrier.out
any_array::AnyArray::slice-returns-in-LargeUtf8 t c =
    let rows = rw c.in-LargeUtf8.array-is at c.slice-in-LargeUtf8.ensures.rows in
    let stored = rw c.in-LargeUtf8.array-is at c.slice-in-LargeUtf8.ensures.stored in
    rw c.in-LargeUtf8.is (cut-strings (λ x. x) LargeUtf8 (record { as_long = λ a. refl; row_is = λ a i. refl; leaves_are = λ a i m. refl; one_type = λ a b. refl; alike = λ a b i j m. tt; good = λ a. tt }) c.slice-in-LargeUtf8.new.self c.in-LargeUtf8.array c.args.at c.args.n (rw c.in-LargeUtf8.is at c.requires.within) stored rows)

pub any_array::AnyArray::slice-returns-in-BinaryView : goal.any_array::AnyArray::slice-returns-in-BinaryView
unfolding Rattle.polars_arrays_nested.specs.declared.any_array.AnyArray.TheViews.out-AnyArray denote.Hole.Carrier.out
any_array::AnyArray::slice-returns-in-BinaryView t c =
    let rows = rw c.in-BinaryView.array-is at c.slice-in-BinaryView.ensures.rows in
    let stored = rw c.in-BinaryView.array-is at c.slice-in-BinaryView.ensures.stored in
    rw c.in-BinaryView.is (cut-views BinaryView (record { as_long = λ a. refl; row_is = λ a i. refl; leaves_are = λ a i m. refl; one_type = λ a b. refl; alike = λ a b i j m. tt; good = λ a. tt }) c.slice-in-BinaryView.new.self c.in-BinaryView.array c.args.at c.args.n (rw c.in-BinaryView.is at c.requires.within) stored rows)

pub any_array::AnyArray::slice-returns-in-Utf8View : goal.any_array::AnyArray::slice-returns-in-Utf8View
unfolding Rattle.polars_arrays_nested.specs.declared.any_array.AnyArray.TheViews.out-AnyArray denote.Hole.Carrier.out
any_array::AnyArray::slice-returns-in-Utf8View t c =
    let rows = rw c.in-Utf8View.array-is at c.slice-in-Utf8View.ensures.rows in
    let stored = rw c.in-Utf8View.array-is at c.slice-in-Utf8View.ensures.stored in
    rw c.in-Utf8View.is (cut-views Utf8View (record { as_long = λ a. refl; row_is = λ a i. refl; leaves_are = λ a i m. refl; one_type = λ a b. refl; alike = λ a b i j m. tt; good = λ a. tt }) c.slice-in-Utf8View.new.self c.in-Utf8View.array c.args.at c.args.n (rw c.in-Utf8View.is at c.requires.within) stored rows)

pub any_array::AnyArray::slice-returns-in-FixedSizeBinary : goal.any_array::AnyArray::slice-returns-in-FixedSizeBinary
unfolding Rattle.polars_arrays_nested.specs.declared.any_array.AnyArray.TheViews.out-AnyArray denote.Hole.Carrier.out
any_array::AnyArray::slice-returns-in-FixedSizeBinary t c =
    let rows = rw c.in-FixedSizeBinary.array-is at c.slice-in-FixedSizeBinary.ensures.rows in
    let stored = rw c.in-FixedSizeBinary.array-is at c.slice-in-FixedSizeBinary.ensures.stored in
    rw c.in-FixedSizeBinary.is (cut-sized c.slice-in-FixedSizeBinary.new.self c.in-FixedSizeBinary.array c.args.at c.args.n stored rows)

pub struct_array::StructArray::slice-loop-i-init : goal.struct_array::StructArray::slice-loop-i-init
struct_array::StructArray::slice-loop-i-init t c = search rules
