-- Parts of numbers as columns.
--
-- A part of kind 3 has its numbers in `i8s`, of 8 bits with a sign. Where these are 127, 5 and 1
-- under the bits 1, 0, 1, its rows are 127, null and 1, and their sum is -128.
use Rattle.std.specs.Prelude.{◌≡◌, ℕ, ℤ, pos, Bool, true, false, List, [], Option, Some, None}
use Rattle.std.specs.Prelude.{length, ⊤}
use Rattle.arrow_calls.specs.Columns.{IsColumn, rows_lent}
use Rattle.arrow_calls.specs.declared.fault.Fault.{Fault}
use Rattle.arrow_calls.specs.declared.fault.Fault.TheVariants.{Memory, NotServed, Parts, Room}
use Rattle.arrow_calls.specs.declared.fault.Fault.TheVariants.{Types}
use Rattle.arrow_columns.specs.Reductions.{sum_if_any}
use Rattle.arrow_parts.specs.Kinds.{kind_number}
use Rattle.arrow_parts.specs.declared.part.Part.{Part}
use Rattle.arrow_parts.specs.declared.part.PartKind.{PartKind}
use Rattle.arrow_parts.specs.declared.part.PartKind.TheVariants as kind
use Rattle.polars_arrays_flat.specs.Row.{Row}
use Rattle.polars_arrays_numbers.specs.Ranges.{greatest_of, least_of}

-- the rows of a part of numbers; none if its kind is another
abbrev pub rows_at : Option PartKind → Part → List Row
rows_at (Some kind.Int8) p = rows_lent (λ x. x) p p.i8s.now
rows_at (Some kind.Int16) p = rows_lent (λ x. x) p p.i16s.now
rows_at (Some kind.Int32) p = rows_lent (λ x. x) p p.i32s.now
rows_at (Some kind.Int64) p = rows_lent (λ x. x) p p.i64s.now
rows_at (Some kind.UInt8) p = rows_lent (λ x. pos x) p p.u8s.now
rows_at (Some kind.UInt16) p = rows_lent (λ x. pos x) p p.u16s.now
rows_at (Some kind.UInt32) p = rows_lent (λ x. pos x) p p.u32s.now
rows_at (Some kind.UInt64) p = rows_lent (λ x. pos x) p p.u64s.now
rows_at _ p = []

-- the number of stored numbers of a part of numbers
abbrev pub count_at : Option PartKind → Part → ℕ
count_at (Some kind.Int8) p = length p.i8s.now
count_at (Some kind.Int16) p = length p.i16s.now
count_at (Some kind.Int32) p = length p.i32s.now
count_at (Some kind.Int64) p = length p.i64s.now
count_at (Some kind.UInt8) p = length p.u8s.now
count_at (Some kind.UInt16) p = length p.u16s.now
count_at (Some kind.UInt32) p = length p.u32s.now
count_at (Some kind.UInt64) p = length p.u64s.now
count_at _ p = 0

-- a type of whole numbers: its least and its greatest number, and its width in bits
pub record NumberType : Type 0 where
  pub least : ℤ
  pub greatest : ℤ
  pub width : ℕ

-- the type of `width` bits, signed or not
abbrev pub type_of : Bool → ℕ → Option NumberType
type_of signed width =
    Some (record
    { least = least_of signed width; greatest = greatest_of signed width; width = width })

-- the type of a kind of numbers
abbrev pub number_type : Option PartKind → Option NumberType
number_type (Some kind.Int8) = type_of true 8
number_type (Some kind.Int16) = type_of true 16
number_type (Some kind.Int32) = type_of true 32
number_type (Some kind.Int64) = type_of true 64
number_type (Some kind.UInt8) = type_of false 8
number_type (Some kind.UInt16) = type_of false 16
number_type (Some kind.UInt32) = type_of false 32
number_type (Some kind.UInt64) = type_of false 64
number_type _ = None

-- the rows of a part of numbers
abbrev pub number_rows_of : Part → List Row
number_rows_of p = rows_at (kind_number p.kind) p

-- the sum of rows at a type, wrapped
abbrev pub sum_at : Option NumberType → List Row → Option ℤ
sum_at None rows = None
sum_at (Some type) rows = sum_if_any type.least type.width rows

-- the sum of a part of numbers, wrapped to their type; None if no row is present
abbrev pub sum_of_part : Part → Option ℤ
sum_of_part p = sum_at (number_type (kind_number p.kind)) (number_rows_of p)

-- a fault of a call on one part is true: the part lends no column, or has no numbers
abbrev pub IsTrueFault : Part → Fault → Type 0
IsTrueFault p Parts = ¬ IsColumn p (count_at (kind_number p.kind) p)
IsTrueFault p Types = ⊥
IsTrueFault p Room = ⊥
IsTrueFault p Memory = ⊤
IsTrueFault p NotServed = number_type (kind_number p.kind) ≡ None
