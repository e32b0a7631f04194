-- Counts of the bits of a part's numbers.
--
-- The rows 12 and null have two ones and null: the second count may be any number.
use Rattle.std.specs.Prelude.{◌≡◌, ℕ, pos, List, Option, Some, None, map}
use Rattle.arrow_calls.specs.Columns.{rows_lent}
use Rattle.arrow_calls.specs.Counts.{IsTrueCountsFault}
use Rattle.arrow_calls.specs.declared.fault.Fault.{Fault}
use Rattle.arrow_calls.specs.declared.fault.Fault.TheVariants.{NotServed}
use Rattle.arrow_columns.specs.Counting.{counted_by}
use Rattle.arrow_columns.specs.declared.counting.Counting.{Counting}
use Rattle.arrow_columns.specs.declared.counting.Counting.TheVariants as counting
use Rattle.arrow_parts.specs.Kinds.{kind_number}
use Rattle.arrow_parts.specs.declared.part.Part.{Part}
use Rattle.dunkelva_c.specs.Columns.{NumberType, count_at, number_rows_of, number_type}
use Rattle.polars_compute_reductions.specs.Bitwise.{counted}

-- counts under the validity of a part are those of its rows; a count of a null row is null
abbrev pub AreCountsAt : Option NumberType → Counting → Part → List ℕ → Type 0
AreCountsAt None counting p counts = ⊥
AreCountsAt (Some type) counting p counts =
    rows_lent (λ n. pos n) p counts
    ≡ map (counted (counted_by counting) type.width) (number_rows_of p)

abbrev pub AreCounts : Counting → Part → List ℕ → Type 0
AreCounts counting p counts = AreCountsAt (number_type (kind_number p.kind)) counting p counts

abbrev pub AreNumberedCounts : Option Counting → Part → List ℕ → Type 0
AreNumberedCounts None p counts = ⊥
AreNumberedCounts (Some counting) p counts = AreCounts counting p counts

-- a fault of the counts of a part is true
abbrev pub IsTrueCountFault : ℕ → Part → Fault → Type 0
IsTrueCountFault room p NotServed = number_type (kind_number p.kind) ≡ None
IsTrueCountFault room p fault = IsTrueCountsFault (count_at (kind_number p.kind) p) room p fault

-- a fault of a numbered count of a part is true: no count may have the number
abbrev pub IsTrueCountingFault : Option Counting → ℕ → Part → Fault → Type 0
IsTrueCountingFault None room p fault = fault ≡ NotServed
IsTrueCountingFault (Some counting) room p fault = IsTrueCountFault room p fault
