-- Comparisons of a part of numbers with a number.
--
-- Of the rows 1, null, 3 and the number 2 the bits of `Less` are 1, 0, 0 and those of `Unequal` 1,
-- 1, 1.
use Rattle.std.specs.Prelude.{◌≡◌, ◌≤◌, ◌≤ℤ◌, ◌*◌, ℕ, ℤ, Bool, List, Option, Some, None, map, ⊤}
use Rattle.arrow_calls.specs.Columns.{IsColumn}
use Rattle.arrow_calls.specs.declared.fault.Fault.{Fault}
use Rattle.arrow_calls.specs.declared.fault.Fault.TheVariants.{Memory, NotServed, Parts, Room}
use Rattle.arrow_calls.specs.declared.fault.Fault.TheVariants.{Types}
use Rattle.arrow_columns.specs.Comparing.{holds_of}
use Rattle.arrow_columns.specs.declared.comparing.Test.{Test}
use Rattle.arrow_parts.specs.Kinds.{kind_number}
use Rattle.arrow_parts.specs.Written.{AreWritten}
use Rattle.arrow_parts.specs.declared.part.Part.{Part}
use Rattle.dunkelva_c.specs.Columns.{NumberType, count_at, number_rows_of, number_type}
use Rattle.polars_arrays_flat.specs.Row.{Int}

-- each row of a part of numbers compared with a number
abbrev pub compared_with : Test → Part → ℤ → List Bool
compared_with test p n = map (λ row. holds_of test row (Int n)) (number_rows_of p)

-- words hold the comparisons of the rows of a part with a number
abbrev pub AreCompared : Test → Part → ℤ → List ℕ → Type 0
AreCompared test p n words = AreWritten (compared_with test p n) words

-- a number names a comparison, whose results words hold
abbrev pub IsNumberedTest : Option Test → Part → ℤ → List ℕ → Type 0
IsNumberedTest None p n words = ⊥
IsNumberedTest (Some test) p n words = AreCompared test p n words

-- a fault of a comparison of `count` stored numbers, from `least` to `greatest`, with n is true
abbrev pub IsTrueTypeFault : ℤ → ℤ → ℤ → ℕ → Part → Fault → Type 0
IsTrueTypeFault least greatest n count p Parts = ¬ IsColumn p count
IsTrueTypeFault least greatest n count p Types = ¬ ((least ≤ℤ n) × (n ≤ℤ greatest))
IsTrueTypeFault least greatest n count p Room = ⊥
IsTrueTypeFault least greatest n count p Memory = ⊤
IsTrueTypeFault least greatest n count p NotServed = ⊥

-- a fault of a comparison of a part with n is true: the part may have no numbers
abbrev pub IsTrueFaultAt : Option NumberType → ℤ → ℕ → Part → Fault → Type 0
IsTrueFaultAt None n count p fault = fault ≡ NotServed
IsTrueFaultAt (Some type) n count p fault = IsTrueTypeFault type.least type.greatest n count p fault

abbrev pub IsTrueNumberFault : ℤ → Part → Fault → Type 0
IsTrueNumberFault n p fault =
    IsTrueFaultAt (number_type (kind_number p.kind)) n (count_at (kind_number p.kind) p) p fault

-- a fault of such a comparison, written into this many words, is true: they may be too few
abbrev pub IsTrueNumberRoomFault : ℤ → ℕ → Part → Fault → Type 0
IsTrueNumberRoomFault n words p Room = ¬ (p.rows ≤ 64 * words)
IsTrueNumberRoomFault n words p fault = IsTrueNumberFault n p fault

-- a fault of a numbered comparison with n is true: no comparison may have the number
abbrev pub IsTrueNumberTestFault : Option Test → ℤ → ℕ → Part → Fault → Type 0
IsTrueNumberTestFault None n words p fault = fault ≡ NotServed
IsTrueNumberTestFault (Some test) n words p fault = IsTrueNumberRoomFault n words p fault
