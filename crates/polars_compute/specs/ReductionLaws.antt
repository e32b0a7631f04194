-- Counts, sums, reductions and extremes of columns depend on their rows alone.
use Rattle.std.specs.Prelude.{◌≡◌, ℕ, ℤ, Bool, pos, List, Option, Result, MatchOption}
use Rattle.std.specs.Option.{option_map}
use Rattle.std.specs.Result.{result_map_both}
use Rattle.polars_arrays_bits.specs.declared.error.ComputeError.{ComputeError}
use Rattle.polars_arrays_flat.specs.ArrayRows.{number_rows}
use Rattle.polars_arrays_flat.specs.Kind.{Kind}
use Rattle.polars_arrays_flat.specs.Row.{Row}
use Rattle.polars_arrays_nested.specs.AnyRows.{rows}
use Rattle.polars_arrays_nested.specs.Types.{type_of}
use Rattle.polars_arrays_nested.specs.declared.any_array.AnyArray.{AnyArray}
use Rattle.polars_arrays_numbers.specs.Wrapping.{wrapped}
use Rattle.polars_compare.specs.RowsLaws.{Stored, rows_of}
use Rattle.polars_compare_extremes.specs.Extremes.{FindsBest, IsGreatest, IsLeast, NonePresent}
use Rattle.polars_compare_extremes.specs.Scalars.{AnswersKind, AreExtremes, scalar_kind, scalar_row}
use Rattle.polars_compare_extremes.specs.declared.scalar.AnyScalar.{AnyScalar}
use Rattle.polars_compute_reductions.specs.Bitwise.{AreCounts, reduced}
use Rattle.polars_compute_reductions.specs.Sum.{total}

-- two columns with the same rows, however they are stored, have equal results. `Answers` says that
-- a result is right for rows, and `read` gives the part of it that a caller sees
abbrev pub ByRows : {A B : Type 0} → (List Row → A → Type 0) → (A → B) → Type 0
ByRows Answers read = (a a' : Stored) (answer answer' : _) → rows_of a ≡ rows_of a'
    → Answers (rows_of a) answer → Answers (rows_of a') answer' → read answer ≡ read answer'

-- two arrays of any kind with the same type and rows have equal results
abbrev pub AnyByRows : {A B : Type 0} → (Kind → List Row → A → Type 0) → (A → B) → Type 0
AnyByRows Answers read = (a a' : AnyArray) (answer answer' : _) → type_of a ≡ type_of a' → rows a
    ≡ rows a'
    → Answers (type_of a) (rows a) answer → Answers (type_of a') (rows a') answer' → read answer
    ≡ read answer'

-- ---- results

-- a number is the sum of rows, wrapped
abbrev pub IsSum : ℤ → ℕ → List Row → ℤ → Type 0
IsSum least width rows sum = sum ≡ wrapped least width (total rows)

-- bits are the reduction of rows by a test of each place
abbrev pub IsReduction : (List Bool → Bool) → ℕ → List Row → Option (List Bool) → Type 0
IsReduction test width rows bits = bits ≡ reduced test width rows

-- `found` is the best present row, or none; `put` gives the row of a result
abbrev pub IsExtremeOf : {A : Type 0} → (Row → Row → Bool) → (A → Row) → List Row → Option A
    → Type 0
IsExtremeOf better put rows found = MatchOption found (NonePresent rows)
    (λ x. FindsBest better rows (put x))

-- the least and the greatest present row
abbrev pub AreBothOf : {A : Type 0} → (A → Row) → List Row → Option (A × A) → Type 0
AreBothOf put rows found =
    MatchOption found (NonePresent rows)
    (λ pair. IsLeast rows (put pair.0) × IsGreatest rows (put pair.1))

-- a scalar of this kind is the best present row, or there is none
abbrev pub IsScalarOf : (Row → Row → Bool) → Kind → List Row → Option AnyScalar → Type 0
IsScalarOf better kind rows found =
    MatchOption found (NonePresent rows)
    (λ scalar. (scalar_kind scalar ≡ kind) × FindsBest better rows (scalar_row scalar))

-- ---- what a caller sees of a result

-- the rows of a pair
abbrev pub both : {A B : Type 0} → (A → B) → A × A → B × B
both put pair = (put pair.0, put pair.1)

-- the kind and the row of a scalar
abbrev pub scalar_told : AnyScalar → Kind × Row
scalar_told scalar = (scalar_kind scalar, scalar_row scalar)

-- an error, or the result
abbrev pub told : {A B : Type 0} → (A → B) → Result (Option A) ComputeError
    → Result (Option B) ComputeError
told read result = result_map_both (option_map read) (λ error. error) result

-- ---- the laws

-- sums are equal
abbrev pub SumsByRows : ℤ → ℕ → Type 0
SumsByRows least width = ByRows (IsSum least width) (λ sum. sum)

-- counts of each row's bits are equal
abbrev pub CountsByRows : ℕ → Type 0
CountsByRows width = (count : List Bool → ℕ)
    → ByRows (AreCounts count width) (number_rows (λ (n : ℕ). pos n))

-- reductions are equal
abbrev pub ReductionsByRows : ℕ → Type 0
ReductionsByRows width = (test : List Bool → Bool) → ByRows (IsReduction test width) (λ bits. bits)

-- extremes are the same row, for any test of two rows
abbrev pub ExtremesByRows : {A : Type 0} → (A → Row) → Type 0
ExtremesByRows put = (better : Row → Row → Bool) → ByRows (IsExtremeOf better put) (option_map put)

-- pairs of extremes are the same rows
abbrev pub BothByRows : {A : Type 0} → (A → Row) → Type 0
BothByRows put = ByRows (AreBothOf put) (option_map (both put))

-- extremes of arrays of any kind are the same row, or both are unsupported
abbrev pub AnyExtremesByRows : Type 0
AnyExtremesByRows = (better : Row → Row → Bool)
    → AnyByRows
    (λ kind rows result. AnswersKind kind result (IsScalarOf better kind rows)) (told scalar_told)

-- pairs of extremes of arrays of any kind are the same rows, or both are unsupported
abbrev pub AnyBothByRows : Type 0
AnyBothByRows = AnyByRows
    (λ kind rows result. AnswersKind kind result (AreExtremes kind rows)) (told (both scalar_told))
