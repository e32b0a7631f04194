-- Comparisons of two parts of numbers.
--
-- Of the rows 1, null, 3 and 1, null, 2 the bits of `Equal` are 1, 1, 0 and those of `Greater` 0,
-- 0, 1.
use Rattle.std.specs.Prelude.{◌≡◌, ◌≤◌, ◌*◌, ℕ, Bool, List, Option, Some, None, ⊤}
use Rattle.std.specs.Simd.Lanes.{zip2}
use Rattle.arrow_calls.specs.Columns.{IsColumn}
use Rattle.arrow_calls.specs.declared.fault.Fault.{Fault}
use Rattle.arrow_calls.specs.declared.fault.Fault.TheVariants.{Memory, NotServed, Parts, Room}
use Rattle.arrow_calls.specs.declared.fault.Fault.TheVariants.{Types}
use Rattle.arrow_columns.specs.Comparing.{holds_of}
use Rattle.arrow_columns.specs.declared.comparing.Test.{Test}
use Rattle.arrow_parts.specs.Kinds.{kind_number}
use Rattle.arrow_parts.specs.Written.{AreWritten}
use Rattle.arrow_parts.specs.declared.part.Part.{Part}
use Rattle.dunkelva_c.specs.Columns.{count_at, number_type, rows_at}

-- two parts are of one kind and length
pub record AreAlike (left right : Part) : Type 0 where
  pub kind : left.kind ≡ right.kind
  pub rows : left.rows ≡ right.rows

-- a comparison of the rows of two parts of the left one's kind, row by row
abbrev pub compared_rows : Test → Part → Part → List Bool
compared_rows test left right =
    zip2 (holds_of test) (rows_at (kind_number left.kind) left)
    (rows_at (kind_number left.kind) right)

-- a fault of a comparison of two parts of numbers is true
abbrev pub IsTruePairFault : Part → Part → Fault → Type 0
IsTruePairFault left right Parts =
    ¬ (IsColumn left (count_at (kind_number left.kind) left)
    × IsColumn right (count_at (kind_number left.kind) right))
IsTruePairFault left right Types = ¬ AreAlike left right
IsTruePairFault left right Room = ⊥
IsTruePairFault left right Memory = ⊤
IsTruePairFault left right NotServed = number_type (kind_number left.kind) ≡ None

-- two parts are alike, and words hold a comparison of their rows
pub record IsComparison (test : Test) (left right : Part) (words : List ℕ) : Type 0 where
  pub alike : AreAlike left right
  pub bits : AreWritten (compared_rows test left right) words

-- a number names a comparison, which words hold
abbrev pub IsNumberedComparison : Option Test → Part → Part → List ℕ → Type 0
IsNumberedComparison None left right words = ⊥
IsNumberedComparison (Some test) left right words = IsComparison test left right words

-- a fault of a comparison, written into this many words, is true: they may be too few
abbrev pub IsTrueRoomFault : ℕ → Part → Part → Fault → Type 0
IsTrueRoomFault words left right Room = ¬ (left.rows ≤ 64 * words)
IsTrueRoomFault words left right fault = IsTruePairFault left right fault

-- a fault of a numbered comparison is true: no comparison may have the number
abbrev pub IsTrueTestFault : Option Test → ℕ → Part → Part → Fault → Type 0
IsTrueTestFault None words left right fault = fault ≡ NotServed
IsTrueTestFault (Some test) words left right fault = IsTrueRoomFault words left right fault
