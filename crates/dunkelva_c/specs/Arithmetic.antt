-- Arithmetic on parts of numbers, whose results are written into the caller's memory.
--
-- Of the columns 100, null and 100, 1 of 8 bits with a sign the sums are -56 and null: memory has
-- the number -56 and some other one, the bits 1 and 0, and the count 1 of nulls.
use Rattle.std.specs.Prelude.{◌≡◌, ◌≤◌, ◌*◌, ◌≤ℤ◌, ℕ, ℤ, pos, Bool, not, List, [], Option, Some}
use Rattle.std.specs.Prelude.{None, count_by, length, ⊤}
use Rattle.arrow_arithmetic.specs.Arithmetic.{function_of, operation_of, placed}
use Rattle.arrow_arithmetic.specs.declared.calculating.Arithmetic.{Arithmetic}
use Rattle.arrow_arithmetic.specs.declared.calculating.Side.{Side}
use Rattle.arrow_arithmetic.specs.declared.calculating.Sign.{Sign}
use Rattle.arrow_calls.specs.Columns.{IsColumn}
use Rattle.arrow_calls.specs.declared.fault.Fault.{Fault}
use Rattle.arrow_calls.specs.declared.fault.Fault.TheVariants.{Memory, NotServed, Parts, Room}
use Rattle.arrow_calls.specs.declared.fault.Fault.TheVariants.{Types}
use Rattle.arrow_parts.specs.Kinds.{kind_number}
use Rattle.arrow_parts.specs.Written.{AreWritten}
use Rattle.arrow_parts.specs.declared.part.Part.{Part}
use Rattle.arrow_parts.specs.declared.part.PartKind.{PartKind}
use Rattle.arrow_parts.specs.declared.part.PartKind.TheVariants as kind
use Rattle.dunkelva_c.specs.Columns.{NumberType, count_at, number_rows_of, number_type, rows_at}
use Rattle.dunkelva_c.specs.Comparisons.{AreAlike}
use Rattle.polars_arrays_flat.specs.Row.{Row}
use Rattle.polars_arrays_flat.specs.StoredRows.{number_slots, rows_under}
use Rattle.polars_compute_arithmetic.specs.Operations.{Function, Operation, answer_rows}
use Rattle.polars_compute_arithmetic.specs.Operations.{result_rows}

-- the caller's slices of numbers, one for each type
pub record Slices : Type 0 where
  pub i8s : List ℤ
  pub i16s : List ℤ
  pub i32s : List ℤ
  pub i64s : List ℤ
  pub u8s : List ℕ
  pub u16s : List ℕ
  pub u32s : List ℕ
  pub u64s : List ℕ

abbrev pub slices : List ℤ → List ℤ → List ℤ → List ℤ → List ℕ → List ℕ → List ℕ → List ℕ → Slices
slices a b c d e f g h =
    record { i8s = a; i16s = b; i32s = c; i64s = d; u8s = e; u16s = f; u32s = g; u64s = h }

-- the length of the slice of a kind
abbrev pub room_at : Option PartKind → Slices → ℕ
room_at (Some kind.Int8) s = length s.i8s
room_at (Some kind.Int16) s = length s.i16s
room_at (Some kind.Int32) s = length s.i32s
room_at (Some kind.Int64) s = length s.i64s
room_at (Some kind.UInt8) s = length s.u8s
room_at (Some kind.UInt16) s = length s.u16s
room_at (Some kind.UInt32) s = length s.u32s
room_at (Some kind.UInt64) s = length s.u64s
room_at _ s = 0

-- numbers, under the bits that words hold, are rows. A bit is 0 where a row is null, and `nulls` is
-- the number of these rows
pub record AreRows {A : Type 0} (value : A → ℤ) (rows : List Row) (values : List A) (words : List ℕ)
    (nulls : ℕ) : Type 0 where
  pub present : List Bool
  pub bits : AreWritten present words
  pub same : rows_under (Some present) (number_slots value values) ≡ rows
  pub count : nulls ≡ count_by not present

-- the numbers in the slice of a kind, under the bits that words hold, are rows
abbrev pub AreRowsAt : Option PartKind → List Row → Slices → List ℕ → ℕ → Type 0
AreRowsAt (Some kind.Int8) rows s words nulls = AreRows (λ x. x) rows s.i8s words nulls
AreRowsAt (Some kind.Int16) rows s words nulls = AreRows (λ x. x) rows s.i16s words nulls
AreRowsAt (Some kind.Int32) rows s words nulls = AreRows (λ x. x) rows s.i32s words nulls
AreRowsAt (Some kind.Int64) rows s words nulls = AreRows (λ x. x) rows s.i64s words nulls
AreRowsAt (Some kind.UInt8) rows s words nulls = AreRows (λ x. pos x) rows s.u8s words nulls
AreRowsAt (Some kind.UInt16) rows s words nulls = AreRows (λ x. pos x) rows s.u16s words nulls
AreRowsAt (Some kind.UInt32) rows s words nulls = AreRows (λ x. pos x) rows s.u32s words nulls
AreRowsAt (Some kind.UInt64) rows s words nulls = AreRows (λ x. pos x) rows s.u64s words nulls
AreRowsAt _ rows s words nulls = ⊥

-- the results of an operation on two columns of a type
abbrev pub results_at : Option NumberType → Operation → List Row → List Row → List Row
results_at None op xs ys = []
results_at (Some type) op xs ys = result_rows type.least type.width op xs ys

-- the results of a function of a column of a type
abbrev pub answers_at : Option NumberType → Function → List Row → List Row
answers_at None f xs = []
answers_at (Some type) f xs = answer_rows type.least type.width f xs

-- the results of an operation on two parts of the left one's kind, row by row
abbrev pub results_of : Arithmetic → Part → Part → List Row
results_of op left right =
    results_at (number_type (kind_number left.kind)) (operation_of op)
    (rows_at (kind_number left.kind) left) (rows_at (kind_number left.kind) right)

-- two parts are alike, and the caller's memory has the results of an operation on them
pub record AreResults (op : Arithmetic) (left right : Part) (s : Slices) (words : List ℕ)
    (nulls : ℕ) : Type 0 where
  pub alike : AreAlike left right
  pub rows : AreRowsAt (kind_number left.kind) (results_of op left right) s words nulls

abbrev pub AreNumberedResults : Option Arithmetic → Part → Part → Slices → List ℕ → ℕ → Type 0
AreNumberedResults None left right s words nulls = ⊥
AreNumberedResults (Some op) left right s words nulls = AreResults op left right s words nulls

-- the caller's memory has the results of a function of a part
abbrev pub AreAnswers : Function → Part → Slices → List ℕ → ℕ → Type 0
AreAnswers f p s words nulls =
    AreRowsAt (kind_number p.kind)
    (answers_at (number_type (kind_number p.kind)) f (number_rows_of p)) s words nulls

abbrev pub AreNumberedAnswers : Option Arithmetic → Option Side → ℤ → Part → Slices → List ℕ → ℕ
    → Type 0
AreNumberedAnswers (Some op) (Some side) n p s words nulls =
    AreAnswers (placed side (operation_of op) n) p s words nulls
AreNumberedAnswers _ _ n p s words nulls = ⊥

abbrev pub AreNumberedSigns : Option Sign → Part → Slices → List ℕ → ℕ → Type 0
AreNumberedSigns None p s words nulls = ⊥
AreNumberedSigns (Some sign) p s words nulls = AreAnswers (function_of sign) p s words nulls

-- there is room for the numbers and the bits of a part: a number for each row, and enough words
pub record HasRoom (p : Part) (room words : ℕ) : Type 0 where
  pub values : room ≡ p.rows
  pub bits : p.rows ≤ 64 * words

-- a fault of an operation on two parts of numbers of one kind is true
abbrev pub IsTrueResultFault : ℕ → ℕ → ℕ → ℕ → Part → Part → Fault → Type 0
IsTrueResultFault xs ys room words left right Parts = ¬ (IsColumn left xs × IsColumn right ys)
IsTrueResultFault xs ys room words left right Types = ⊥
IsTrueResultFault xs ys room words left right Room = ¬ HasRoom left room words
IsTrueResultFault xs ys room words left right Memory = ⊤
IsTrueResultFault xs ys room words left right NotServed = ⊥

-- a fault of an operation on two parts is true
abbrev pub IsTruePartsFault : Slices → ℕ → Part → Part → Fault → Type 0
IsTruePartsFault s words left right Types = ¬ AreAlike left right
IsTruePartsFault s words left right NotServed = number_type (kind_number left.kind) ≡ None
IsTruePartsFault s words left right fault =
    IsTrueResultFault (count_at (kind_number left.kind) left)
    (count_at (kind_number left.kind) right) (room_at (kind_number left.kind) s) words left
    right fault

-- a fault of a numbered operation on two parts is true: no operation may have the number
abbrev pub IsTrueArithmeticFault : Option Arithmetic → Slices → ℕ → Part → Part → Fault → Type 0
IsTrueArithmeticFault None s words left right fault = fault ≡ NotServed
IsTrueArithmeticFault (Some op) s words left right fault = IsTruePartsFault s words left right fault

-- a fault of a function of `count` stored numbers is true
abbrev pub IsTrueAnswerFault : ℕ → ℕ → ℕ → Part → Fault → Type 0
IsTrueAnswerFault count room words p Parts = ¬ IsColumn p count
IsTrueAnswerFault count room words p Types = ⊥
IsTrueAnswerFault count room words p Room = ¬ HasRoom p room words
IsTrueAnswerFault count room words p Memory = ⊤
IsTrueAnswerFault count room words p NotServed = ⊥

-- a fault of a function of a part is true
abbrev pub IsTruePartFault : Slices → ℕ → Part → Fault → Type 0
IsTruePartFault s words p NotServed = number_type (kind_number p.kind) ≡ None
IsTruePartFault s words p fault =
    IsTrueAnswerFault (count_at (kind_number p.kind) p) (room_at (kind_number p.kind) s) words p
    fault

-- a fault of a numbered function of a part is true: no function may have the number
abbrev pub IsTrueSignFault : Option Sign → Slices → ℕ → Part → Fault → Type 0
IsTrueSignFault None s words p fault = fault ≡ NotServed
IsTrueSignFault (Some sign) s words p fault = IsTruePartFault s words p fault

-- a fault of an operation on numbers from `least` to `greatest` and n is true: n may lie outside of
-- these
abbrev pub IsTrueTypedFault : ℤ → ℤ → ℤ → ℕ → ℕ → ℕ → Part → Fault → Type 0
IsTrueTypedFault least greatest n count room words p Types = ¬ ((least ≤ℤ n) × (n ≤ℤ greatest))
IsTrueTypedFault least greatest n count room words p fault =
    IsTrueAnswerFault count room words p fault

-- a fault of an operation on a part and n is true: the part may have no numbers
abbrev pub IsTrueWithFaultAt : Option NumberType → ℤ → ℕ → ℕ → ℕ → Part → Fault → Type 0
IsTrueWithFaultAt None n count room words p fault = fault ≡ NotServed
IsTrueWithFaultAt (Some type) n count room words p fault =
    IsTrueTypedFault type.least type.greatest n count room words p fault

abbrev pub IsTrueWithFault : ℤ → Slices → ℕ → Part → Fault → Type 0
IsTrueWithFault n s words p fault =
    IsTrueWithFaultAt (number_type (kind_number p.kind)) n (count_at (kind_number p.kind) p)
    (room_at (kind_number p.kind) s) words p fault

-- a fault of a numbered operation on a numbered side is true: one of the numbers may name nothing
abbrev pub IsTrueSidedFault : Option Arithmetic → Option Side → ℤ → Slices → ℕ → Part → Fault
    → Type 0
IsTrueSidedFault (Some op) (Some side) n s words p fault = IsTrueWithFault n s words p fault
IsTrueSidedFault _ _ n s words p fault = fault ≡ NotServed
