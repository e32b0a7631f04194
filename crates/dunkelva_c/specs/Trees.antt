-- Faults of calls on trees.
--
-- A comparison that returns 2 promises that the trees are not of one type and length.
use Rattle.std.specs.Prelude.{ℕ, List, ⊤}
use Rattle.arrow_calls.specs.declared.fault.Fault.{Fault}
use Rattle.arrow_calls.specs.declared.fault.Fault.TheVariants.{Memory, NotServed, Parts, Room}
use Rattle.arrow_calls.specs.declared.fault.Fault.TheVariants.{Types}
use Rattle.arrow_equality.specs.Equal.{IsTrueRefusal}
use Rattle.arrow_equality.specs.Nulls.{IsTrueNullRefusal}
use Rattle.arrow_parts.specs.declared.part.Part.{Part}
use Rattle.arrow_parts.specs.declared.refused.Refused.TheVariants as refused

-- a fault of a comparison of trees into words, with its count, is true
abbrev pub IsTrueTreeFault : List Part → List Part → List ℕ → List ℕ → Fault → Type 0
IsTrueTreeFault left right words counts Parts = IsTrueRefusal left right words counts refused.Parts
IsTrueTreeFault left right words counts Types = IsTrueRefusal left right words counts refused.Types
IsTrueTreeFault left right words counts Room = IsTrueRefusal left right words counts refused.Room
IsTrueTreeFault left right words counts Memory = ⊤
IsTrueTreeFault left right words counts NotServed = ⊥

-- a fault of the null rows of a tree, written into this many words, is true
abbrev pub IsTrueNullRowsFault : ℕ → List Part → Fault → Type 0
IsTrueNullRowsFault words parts Parts = IsTrueNullRefusal words parts refused.Parts
IsTrueNullRowsFault words parts Types = IsTrueNullRefusal words parts refused.Types
IsTrueNullRowsFault words parts Room = IsTrueNullRefusal words parts refused.Room
IsTrueNullRowsFault words parts Memory = ⊤
IsTrueNullRowsFault words parts NotServed = ⊥
