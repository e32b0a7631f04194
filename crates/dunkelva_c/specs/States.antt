-- States of distinct values in the caller's memory.
--
-- The range from -1 to 1 has three numbers. A state of it with the bits 0, 1, 1 and the flag 1 has
-- seen 0, 1 and null: two values and three rows. Its list is 0, 1.
use Rattle.std.specs.Prelude.{◌≡◌, ◌≢◌, ◌+◌, ◌<◌, ◌≤◌, ◌≤ℤ◌, ◌+ℤ◌, ◌-ℤ◌, ◌*◌, ◌++◌, ◌^◌, ℕ, ℤ, pos}
use Rattle.std.specs.Prelude.{Bool, false, cond, List, Option, Some, None, drop, length, map}
use Rattle.std.specs.Prelude.{unsigned_abs, IsTrue, ⊤}
use Rattle.arrow_calls.specs.Columns.{IsColumn}
use Rattle.arrow_calls.specs.Numbers.{words_number}
use Rattle.arrow_calls.specs.Statuses.{status_of}
use Rattle.arrow_calls.specs.declared.fault.Fault.{Fault}
use Rattle.arrow_calls.specs.declared.fault.Fault.TheVariants.{Memory, NotServed, Parts, Room}
use Rattle.arrow_calls.specs.declared.fault.Fault.TheVariants.{Types}
use Rattle.arrow_calls.specs.declared.number.Number.{Number}
use Rattle.arrow_parts.specs.Kinds.{kind_number}
use Rattle.arrow_parts.specs.declared.part.Part.{Part}
use Rattle.arrow_unique.specs.Memory.{Holds, low_word, state_in}
use Rattle.dunkelva_c.specs.Columns.{NumberType, count_at, number_rows_of, number_type}
use Rattle.dunkelva_c.specs.declared.states.Range.{Range}
use Rattle.dunkelva_c.specs.declared.states.StateFault.{StateFault}
use Rattle.dunkelva_c.specs.declared.states.StateFault.TheVariants.{NoRange, Of, Outside}
use Rattle.polars_arrays_flat.specs.Row.{Int, Row}
use Rattle.polars_compute_slots.specs.State.{RangeFits, State, appended, are_within, finalised}
use Rattle.polars_compute_slots.specs.State.{merged, numbers_between, numbers_from, set_of}

-- the status of each fault of a call on a state
abbrev pub state_status : StateFault → ℤ
state_status (Of fault) = status_of fault
state_status NoRange = pos 7
state_status Outside = pos 8

-- a status other than 0 is that of a fault that is true
pub record IsTrueStateStatus (True : StateFault → Type 0) (status : ℤ) : Type 0 where
  pub each : status ≢ pos 0 → (fault : StateFault) × (status ≡ state_status fault) × True fault

-- ---- ranges and states

-- the whole number of a number in the caller's memory
abbrev pub whole_in : Number → ℤ
whole_in number = words_number number.low number.high

-- how many numbers a range has
abbrev pub count_in : Number → Number → ℕ
count_in least greatest = unsigned_abs (whole_in greatest -ℤ whole_in least +ℤ pos 1)

-- the state in the caller's memory
abbrev pub state_at : Number → Number → List ℕ → ℕ → State
state_at least greatest words flag = state_in (whole_in least) (count_in least greatest) words flag

-- memory holds a state of a range; the bits past its numbers are the old ones
abbrev pub HoldsAt : Number → Number → List ℕ → List ℕ → ℕ → State → Type 0
HoldsAt least greatest old new flag s =
    Holds (whole_in least) (count_in least greatest) old new flag s

-- a range has these ends, and words have a bit for each of its numbers
pub record IsRange (least greatest : Number) (words : ℕ) (range : Range) : Type 0 where
  pub from : range.least ≡ whole_in least
  pub to : range.greatest ≡ whole_in greatest
  pub count : range.count ≡ count_in least greatest
  pub end : (range.least +ℤ pos range.count) ≤ℤ pos (2 ^ 127)
  pub few : range.count + 1 < 2 ^ 64
  pub room : range.count ≤ 64 * words

-- a fault of a range with this many words is true
abbrev pub IsTrueRangeFault : Number → Number → ℕ → StateFault → Type 0
IsTrueRangeFault least greatest words NoRange = ¬ RangeFits (whole_in least) (whole_in greatest)
IsTrueRangeFault least greatest words (Of Room) = ¬ (count_in least greatest ≤ 64 * words)
IsTrueRangeFault least greatest words fault = ⊥

-- ---- rows that are appended

-- `within` says whether rows lie in the range of n numbers from `least` on. If they do, memory
-- holds the state to which they are appended; otherwise it is as before
pub record IsAppended (least : ℤ) (n : ℕ) (rows : List Row) (old new : List ℕ) (flag after : ℕ)
    (within : Bool) : Type 0 where
  pub told : within ≡ are_within (numbers_from least n) rows
  pub held : IsTrue within → Holds least n old new after (appended rows (state_in least n old flag))
  pub kept : within ≡ false → (new ≡ old) × (after ≡ flag)

-- memory holds the state to which the rows of a part of numbers are appended
abbrev pub IsAppendedPart : Part → Number → Number → List ℕ → List ℕ → ℕ → ℕ → Type 0
IsAppendedPart p least greatest old new flag after =
    HoldsAt least greatest old new after
    (appended (number_rows_of p) (state_at least greatest old flag))

-- a number lies within bounds
abbrev pub IsWithin : ℤ → ℤ → ℤ → Type 0
IsWithin low high n = (low ≤ℤ n) × (n ≤ℤ high)

-- a fault of `count` stored numbers of a type from `low` to `high`, and a range, is true
abbrev pub IsTrueNumbersFault : ℤ → ℤ → ℤ → ℤ → ℕ → Part → Fault → Type 0
IsTrueNumbersFault low high least greatest count p Parts = ¬ IsColumn p count
IsTrueNumbersFault low high least greatest count p Types =
    ¬ (IsWithin low high least × IsWithin low high greatest)
IsTrueNumbersFault low high least greatest count p Room = ⊥
IsTrueNumbersFault low high least greatest count p Memory = ⊤
IsTrueNumbersFault low high least greatest count p NotServed = ⊥

-- a fault of a part, at its type, is true: the part may have no numbers
abbrev pub IsTrueFaultAt : Option NumberType → ℤ → ℤ → ℕ → Part → Fault → Type 0
IsTrueFaultAt None least greatest count p fault = fault ≡ NotServed
IsTrueFaultAt (Some type) least greatest count p fault =
    IsTrueNumbersFault type.least type.greatest least greatest count p fault

abbrev pub IsTruePartFault : ℤ → ℤ → Part → Fault → Type 0
IsTruePartFault least greatest p fault =
    IsTrueFaultAt (number_type (kind_number p.kind)) least greatest
    (count_at (kind_number p.kind) p) p fault

-- a fault of rows of a part that are appended to a state of this many words is true
abbrev pub IsTrueAppendFault : Part → Number → Number → ℕ → StateFault → Type 0
IsTrueAppendFault p least greatest words NoRange = ¬ RangeFits (whole_in least) (whole_in greatest)
IsTrueAppendFault p least greatest words Outside =
    are_within (numbers_between (whole_in least) (whole_in greatest)) (number_rows_of p) ≡ false
IsTrueAppendFault p least greatest words (Of Room) = ¬ (count_in least greatest ≤ 64 * words)
IsTrueAppendFault p least greatest words (Of fault) =
    IsTruePartFault (whole_in least) (whole_in greatest) p fault

-- ---- states that are merged

-- memory holds the state into which another one of the same range is merged
abbrev pub IsMerged : Number → Number → List ℕ → List ℕ → ℕ → ℕ → List ℕ → ℕ → Type 0
IsMerged least greatest old new flag after others other =
    HoldsAt least greatest old new after
    (merged (state_at least greatest old flag) (state_at least greatest others other))

-- a fault of two states of these numbers of words is true
abbrev pub IsTrueMergeFault : Number → Number → ℕ → ℕ → StateFault → Type 0
IsTrueMergeFault least greatest words others NoRange =
    ¬ RangeFits (whole_in least) (whole_in greatest)
IsTrueMergeFault least greatest words others (Of Room) =
    ¬ ((count_in least greatest ≤ 64 * words) × (count_in least greatest ≤ 64 * others))
IsTrueMergeFault least greatest words others fault = ⊥

-- ---- contents of states

-- the number of values that a state has seen, and the number of rows, null among them
pub record AreCounts (least greatest : Number) (words : List ℕ) (flag values rows : ℕ) :
    Type 0 where
  pub present : values ≡ length (set_of (state_at least greatest words flag))
  pub all : rows ≡ length (finalised Int (state_at least greatest words flag))

-- memory holds the values that a state has seen, ascending, and its old contents after them.
-- `told` is 1 if a null was seen, and otherwise 0
pub record IsListed (least greatest : Number) (words : List ℕ) (flag : ℕ) (old new : List ℕ)
    (told : ℕ) : Type 0 where
  pub values : new ≡ map low_word (set_of (state_at least greatest words flag))
      ++ drop (length (set_of (state_at least greatest words flag))) old
  pub null : told ≡ cond (state_at least greatest words flag).has_null 1 0

-- a fault of the list of the values of a state, with room for this many numbers, is true
abbrev pub IsTrueListFault : Number → Number → List ℕ → ℕ → StateFault → Type 0
IsTrueListFault least greatest words room NoRange = ¬ RangeFits (whole_in least) (whole_in greatest)
IsTrueListFault least greatest words room (Of Room) =
    ¬ ((count_in least greatest ≤ 64 * length words)
    × (length (set_of (state_at least greatest words 0)) ≤ room))
IsTrueListFault least greatest words room fault = ⊥
