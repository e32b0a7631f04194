-- The statuses of calls.
--
-- The status of `Room` is 3. A call that returns 3 promises that there was no room; of 4, a failed
-- allocation, nothing is said.
use Rattle.std.specs.Prelude.{◌≡◌, ◌≢◌, ℤ, pos, ⊤}
use Rattle.arrow_calls.specs.declared.fault.Fault.{Fault}
use Rattle.arrow_calls.specs.declared.fault.Fault.TheVariants.{Memory, NotServed, Parts, Room}
use Rattle.arrow_calls.specs.declared.fault.Fault.TheVariants.{Types}
use Rattle.arrow_parts.specs.declared.refused.Refused.{Refused}
use Rattle.arrow_parts.specs.declared.refused.Refused.TheVariants as refused

-- the fault of a refusal
abbrev pub fault_of : Refused → Fault
fault_of refused.Parts = Parts
fault_of refused.Types = Types
fault_of refused.Room = Room
fault_of refused.Memory = Memory

-- the number of each fault
abbrev pub status_of : Fault → ℤ
status_of Parts = pos 1
status_of Types = pos 2
status_of Room = pos 3
status_of Memory = pos 4
status_of NotServed = pos 5

-- the fault is that parts are not good, and they are not, or a failed allocation
abbrev pub IsTrueOf : Type 0 → Fault → Type 0
IsTrueOf good Parts = ¬ good
IsTrueOf good Types = ⊥
IsTrueOf good Room = ⊥
IsTrueOf good Memory = ⊤
IsTrueOf good NotServed = ⊥

-- a status other than 0 is that of a fault that is true
pub record IsTrueStatus (True : Fault → Type 0) (status : ℤ) : Type 0 where
  pub each : status ≢ pos 0 → (fault : Fault) × (status ≡ status_of fault) × True fault
