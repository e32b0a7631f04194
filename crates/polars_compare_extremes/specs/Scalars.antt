-- The extremes of any array.
use Rattle.std.specs.Prelude.{◌≡◌, Bool, true, false, IsTrue, IsFalse, List, Option, Result}
use Rattle.std.specs.Prelude.{MatchOption, MatchResult, pos}
use Rattle.polars_arrays_bits.specs.declared.error.ComputeError.{ComputeError}
use Rattle.polars_arrays_bits.specs.declared.error.ComputeError.TheVariants.{Unsupported}
use Rattle.polars_arrays_flat.specs.Kind.{Kind, BooleanKind, Int8Kind, Int16Kind, Int32Kind}
use Rattle.polars_arrays_flat.specs.Kind.{Int64Kind, Int128Kind, UInt8Kind, UInt16Kind, UInt32Kind}
use Rattle.polars_arrays_flat.specs.Kind.{UInt64Kind, UInt128Kind, BinaryKind, LargeBinaryKind}
use Rattle.polars_arrays_flat.specs.Kind.{Utf8Kind, LargeUtf8Kind, BinaryViewKind, Utf8ViewKind}
use Rattle.polars_arrays_flat.specs.Row.{Row, Int, Truth, Bytes}
use Rattle.polars_compare_leaves.specs.Order.{row_less, row_greater}
use Rattle.polars_compare_extremes.specs.Extremes.{FindsBest, NonePresent}
use Rattle.polars_compare_extremes.specs.declared.extreme.Extreme.{Extreme}
use Rattle.polars_compare_extremes.specs.declared.extreme.Extreme.TheVariants.{Least, Greatest}
use Rattle.polars_compare_extremes.specs.declared.scalar.AnyScalar.{AnyScalar}
use Rattle.polars_compare_extremes.specs.declared.scalar.AnyScalar.TheVariants.{Boolean, Int8}
use Rattle.polars_compare_extremes.specs.declared.scalar.AnyScalar.TheVariants.{Int16, Int32, Int64}
use Rattle.polars_compare_extremes.specs.declared.scalar.AnyScalar.TheVariants.{Int128, UInt8}
use Rattle.polars_compare_extremes.specs.declared.scalar.AnyScalar.TheVariants.{UInt16, UInt32}
use Rattle.polars_compare_extremes.specs.declared.scalar.AnyScalar.TheVariants.{UInt64, UInt128}
use Rattle.polars_compare_extremes.specs.declared.scalar.AnyScalar.TheVariants.{Binary, LargeBinary}
use Rattle.polars_compare_extremes.specs.declared.scalar.AnyScalar.TheVariants.{Utf8, LargeUtf8}
use Rattle.polars_compare_extremes.specs.declared.scalar.AnyScalar.TheVariants.{BinaryView}
use Rattle.polars_compare_extremes.specs.declared.scalar.AnyScalar.TheVariants.{Utf8View}

-- true if the first row is a better extreme than the second
abbrev pub better_of : Extreme → Row → Row → Bool
better_of Least = row_less
better_of Greatest = row_greater

-- true if an array of this kind has extremes, since its rows have an order
abbrev pub has_extremes : Kind → Bool
has_extremes BooleanKind = true
has_extremes Int8Kind = true
has_extremes Int16Kind = true
has_extremes Int32Kind = true
has_extremes Int64Kind = true
has_extremes Int128Kind = true
has_extremes UInt8Kind = true
has_extremes UInt16Kind = true
has_extremes UInt32Kind = true
has_extremes UInt64Kind = true
has_extremes UInt128Kind = true
has_extremes BinaryKind = true
has_extremes LargeBinaryKind = true
has_extremes Utf8Kind = true
has_extremes LargeUtf8Kind = true
has_extremes BinaryViewKind = true
has_extremes Utf8ViewKind = true
has_extremes _ = false

-- the kind of array that has a scalar as a row
abbrev pub scalar_kind : AnyScalar → Kind
scalar_kind (Boolean bit) = BooleanKind
scalar_kind (Int8 n) = Int8Kind
scalar_kind (Int16 n) = Int16Kind
scalar_kind (Int32 n) = Int32Kind
scalar_kind (Int64 n) = Int64Kind
scalar_kind (Int128 n) = Int128Kind
scalar_kind (UInt8 n) = UInt8Kind
scalar_kind (UInt16 n) = UInt16Kind
scalar_kind (UInt32 n) = UInt32Kind
scalar_kind (UInt64 n) = UInt64Kind
scalar_kind (UInt128 n) = UInt128Kind
scalar_kind (Binary bytes) = BinaryKind
scalar_kind (LargeBinary bytes) = LargeBinaryKind
scalar_kind (Utf8 text) = Utf8Kind
scalar_kind (LargeUtf8 text) = LargeUtf8Kind
scalar_kind (BinaryView bytes) = BinaryViewKind
scalar_kind (Utf8View text) = Utf8ViewKind

-- the row that a scalar stands for
abbrev pub scalar_row : AnyScalar → Row
scalar_row (Boolean bit) = Truth bit
scalar_row (Int8 n) = Int n
scalar_row (Int16 n) = Int n
scalar_row (Int32 n) = Int n
scalar_row (Int64 n) = Int n
scalar_row (Int128 n) = Int n
scalar_row (UInt8 n) = Int (pos n)
scalar_row (UInt16 n) = Int (pos n)
scalar_row (UInt32 n) = Int (pos n)
scalar_row (UInt64 n) = Int (pos n)
scalar_row (UInt128 n) = Int (pos n)
scalar_row (Binary bytes) = Bytes bytes.now
scalar_row (LargeBinary bytes) = Bytes bytes.now
scalar_row (Utf8 text) = Bytes text.now
scalar_row (LargeUtf8 text) = Bytes text.now
scalar_row (BinaryView bytes) = Bytes bytes.now
scalar_row (Utf8View text) = Bytes text.now

-- `found` is the extreme of the rows: the best row, as a scalar of this kind, or None if no row is
-- present
abbrev pub IsExtreme : Extreme → Kind → List Row → Option AnyScalar → Type 0
IsExtreme extreme kind rows found =
    MatchOption found (NonePresent rows)
    (λ scalar. (scalar_kind scalar ≡ kind)
    × FindsBest (better_of extreme) rows (scalar_row scalar))

-- `found` has the least and the greatest row, as scalars of this kind, or is None if no row is
-- present
abbrev pub AreExtremes : Kind → List Row → Option (AnyScalar × AnyScalar) → Type 0
AreExtremes kind rows found =
    MatchOption found (NonePresent rows)
    (λ pair. ((scalar_kind pair.0 ≡ kind) × FindsBest row_less rows (scalar_row pair.0))
    × ((scalar_kind pair.1 ≡ kind) × FindsBest row_greater rows (scalar_row pair.1)))

-- P holds of the result if the kind has extremes; otherwise the error is Unsupported
abbrev pub AnswersKind : {A : Type 0} → Kind → Result A ComputeError → (A → Type 0) → Type 0
AnswersKind kind result P =
    MatchResult result (λ found. IsTrue (has_extremes kind) × P found)
    (λ error. IsFalse (has_extremes kind) × (error ≡ Unsupported))
