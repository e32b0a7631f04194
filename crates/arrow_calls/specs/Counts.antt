-- Counts of the bits of the numbers that a part lends.
--
-- Of a part of three rows `Room` is true for a slice of two counts, and for one of four.
use Rattle.std.specs.Prelude.{◌≡◌, ℕ, ⊤}
use Rattle.arrow_calls.specs.Columns.{IsColumn}
use Rattle.arrow_calls.specs.declared.fault.Fault.{Fault}
use Rattle.arrow_calls.specs.declared.fault.Fault.TheVariants.{Memory, NotServed, Parts, Room}
use Rattle.arrow_calls.specs.declared.fault.Fault.TheVariants.{Types}
use Rattle.arrow_parts.specs.declared.part.Part.{Part}

-- a fault of counts of `count` stored numbers, into a slice of `room`, is true
abbrev pub IsTrueCountsFault : ℕ → ℕ → Part → Fault → Type 0
IsTrueCountsFault count room p Parts = ¬ IsColumn p count
IsTrueCountsFault count room p Types = ⊥
IsTrueCountsFault count room p Room = ¬ (room ≡ p.rows)
IsTrueCountsFault count room p Memory = ⊤
IsTrueCountsFault count room p NotServed = ⊥
