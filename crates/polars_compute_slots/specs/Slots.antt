-- The stored form of a state: a slot for each value of a range, ascending, and one for null.
use Rattle.std.specs.Prelude.{◌≡◌, ◌+ℤ◌, ◌-ℤ◌, ◌≤ℤ◌, ◌<ℤ◌, ◌+◌, ◌<◌, ◌^◌, ℕ, ℤ, pos, Bool, false}
use Rattle.std.specs.Prelude.{List, length, map, slice_index_or, unsigned_abs, ⊤}
use Rattle.std.specs.List.{range_with_len}
use Rattle.polars_arrays_flat.specs.Row.{Row, Null, Int}
use Rattle.polars_arrays_flat.specs.StoredRows.{row}
use Rattle.polars_compute_slots.specs.State.{State, appended, set_of}
use Rattle.polars_compute_slots.specs.declared.reading.ReadCounts.{ReadCounts}

-- the state of slots: value i of n from `least` on was seen if slot i is set, a null if slot n is
abbrev pub slot_state : ℤ → ℕ → List Bool → State
slot_state least n slots = record {
  values = map (λ i. (least +ℤ pos i, slice_index_or slots i false)) (range_with_len 0 n);
  has_null = slice_index_or slots n false;
}

-- n values from `least` on are within a type's bounds, and n + 1 is less than 2^64
pub record AreNumbers (low high least : ℤ) (n : ℕ) : Type 0 where
  pub from : low ≤ℤ least
  pub to : (least +ℤ pos n) ≤ℤ (high +ℤ pos 1)
  pub few : n + 1 < 2 ^ 64

-- the slot of a value
abbrev pub place : ℤ → ℤ → ℕ
place least n = unsigned_abs (n -ℤ least)

-- the slot of a row: that of its value; for null the one after all values
abbrev pub slot_of : ℤ → ℕ → Row → ℕ
slot_of least count (Int n) = place least n
slot_of least count row = count

-- a row is null, or a value that has a slot
abbrev pub HasSlot : ℤ → ℕ → Row → Type 0
HasSlot least count (Int n) = (least ≤ℤ n) × (n <ℤ (least +ℤ pos count))
HasSlot least count Null = ⊤
HasSlot least count row = ⊥

-- a state's number of values, the number of them that were seen, and whether a null was
pub record IsCounted (s : State) (counts : ReadCounts) : Type 0 where
  pub values : counts.values ≡ length s.values
  pub seen : counts.seen ≡ length (set_of s)
  pub has_null : counts.has_null ≡ s.has_null

-- all rows have slots
pub record HaveSlots (least : ℤ) (count : ℕ) (rows : List Row) : Type 0 where
  pub each : (i : ℕ) → i < length rows → HasSlot least count (row rows i)

-- slots become those of the state after rows are appended
pub record Marks (least : ℤ) (count : ℕ) (rows : List Row) (before after : List Bool) : Type 0 where
  pub size : length after ≡ length before
  pub state : slot_state least count after ≡ appended rows (slot_state least count before)
