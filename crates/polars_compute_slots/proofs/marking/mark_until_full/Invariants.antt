use Rattle.std.proofs.Common.{◌≡◌, ◌<◌, ◌≤◌, ◌+◌, ◌-◌, ◌*◌, ◌/◌, length, take}
use Rattle.polars_arrays_flat.specs.StoredRows.{number_slots}
use Rattle.polars_compute_slots.specs.Slots.{Marks, slot_state}
use Rattle.polars_compute_slots.specs.State.{fullpoint, whole_blocks}
use Rattle.polars_compute_slots.proofs.marking.mark_until_full.Given as goal

abbrev pub invariant-loop-at : goal.invariant-loop-at
invariant-loop-at g l = record {
  within : l.at ≤ length l.numbers;
  blocks : l.at < length l.numbers → 512 * (l.at / 512) ≡ l.at;
  needed : l.at ≤ whole_blocks (fullpoint (slot_state (g.T.Number.value l.span.least) l.span.count (g.S.Slots.set_slots l.fn.slots)) (number_slots g.T.Number.value l.numbers));
  read : l.steps ≡ l.fn.steps + l.at;
  marks : Marks (g.T.Number.value l.span.least) l.span.count (take l.at (number_slots g.T.Number.value l.numbers)) (g.S.Slots.set_slots l.fn.slots) (g.S.Slots.set_slots l.slots);
}

abbrev pub decreases-loop-at : goal.decreases-loop-at
decreases-loop-at g l = length l.numbers - l.at
