-- The nulls of a part.
--
-- Of the rows 5, null and 7 the bits are 0, 1, 0 and the count is 1; of a column of two nulls they
-- are 1, 1 and 2.
use Rattle.std.specs.Prelude.{◌≡◌, ◌≤◌, ◌*◌, ℕ, Bool, true, false, not, List, Option, Some, None}
use Rattle.std.specs.Prelude.{map, replicate, ⊤}
use Rattle.arrow_calls.specs.declared.fault.Fault.{Fault}
use Rattle.arrow_calls.specs.declared.fault.Fault.TheVariants.{Memory, NotServed, Parts, Room}
use Rattle.arrow_calls.specs.declared.fault.Fault.TheVariants.{Types}
use Rattle.arrow_parts.specs.ByteBits.{HoldPresence}
use Rattle.arrow_parts.specs.Kinds.{kind_number}
use Rattle.arrow_parts.specs.Lent.{present_in}
use Rattle.arrow_parts.specs.Written.{AreWritten}
use Rattle.arrow_parts.specs.declared.part.Part.{Part}
use Rattle.arrow_parts.specs.declared.part.PartKind.{PartKind}
use Rattle.arrow_parts.specs.declared.part.PartKind.TheVariants as kind
use Rattle.dunkelva_c.specs.Columns.{NumberType, number_type}
use Rattle.polars_arrays_flat.specs.Validity.{masked_count}

-- a bit for each of n rows, true if the row is masked
abbrev pub masked_bits : ℕ → Option (List Bool) → List Bool
masked_bits n None = replicate n false
masked_bits n (Some present) = map not present

-- a bit for each row of a part, true if the row is null: each one of a column of nulls
abbrev pub nulls_at : Option PartKind → Part → List Bool
nulls_at (Some kind.Null) p = replicate p.rows true
nulls_at _ p = masked_bits p.rows (present_in p)

-- the number of null rows of a part
abbrev pub null_count_at : Option PartKind → Part → ℕ
null_count_at (Some kind.Null) p = p.rows
null_count_at _ p = masked_count (present_in p)

-- words hold the nulls of a part, and a number is their count
pub record AreNulls (p : Part) (words : List ℕ) (count : ℕ) : Type 0 where
  pub bits : AreWritten (nulls_at (kind_number p.kind) p) words
  pub total : count ≡ null_count_at (kind_number p.kind) p

-- there is a type
abbrev pub is_some_type : Option NumberType → Bool
is_some_type None = false
is_some_type (Some type) = true

-- a column of nulls, of truth values or of numbers
abbrev pub has_nulls : Option PartKind → Bool
has_nulls (Some kind.Null) = true
has_nulls (Some kind.Boolean) = true
has_nulls k = is_some_type (number_type k)

-- a fault of the nulls of a part is true
abbrev pub IsTrueNullFault : Option PartKind → Part → Fault → Type 0
IsTrueNullFault k p Parts = ¬ HoldPresence p.first_bit p.rows p.present.now
IsTrueNullFault k p Types = ⊥
IsTrueNullFault k p Room = ⊥
IsTrueNullFault k p Memory = ⊤
IsTrueNullFault k p NotServed = has_nulls k ≡ false

-- a fault of the nulls of a part, written into this many words, is true: they may be too few
abbrev pub IsTrueNullRoomFault : ℕ → Part → Fault → Type 0
IsTrueNullRoomFault words p Room = ¬ (p.rows ≤ 64 * words)
IsTrueNullRoomFault words p fault = IsTrueNullFault (kind_number p.kind) p fault
