use Rattle.std.proofs.Common.{◌≡◌, map}
use Rattle.std.specs.Prelude.{vec_capacity}
use Rattle.polars_arrays_flat.specs.Row.{Int}
use Rattle.polars_arrays_flat.specs.StoredRows.{number_slots}
use Rattle.polars_compute_slots.specs.Slots.{slot_state}
use Rattle.polars_compute_slots.specs.State.{set_of}
use Rattle.polars_compute_slots.proofs.listing.list_numbers.Given as goal

abbrev pub invariant-loop-i : goal.invariant-loop-i
invariant-loop-i g l = record {
  items : number_slots g.T.Number.value l.numbers.items ≡ map Int (set_of (slot_state (g.T.Number.value l.span.least) l.i (g.S.Slots.set_slots l.slots)));
  room : vec_capacity l.numbers ≡ l.room;
}
