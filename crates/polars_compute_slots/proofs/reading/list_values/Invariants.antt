use Rattle.std.proofs.Common.{◌≡◌, map}
use Rattle.std.specs.Prelude.{vec_capacity}
use Rattle.polars_arrays_flat.specs.Row.{Int}
use Rattle.polars_arrays_flat.specs.StoredRows.{number_slots}
use Rattle.polars_compute_slots.proofs.ReadValues.{read_members}
use Rattle.polars_compute_slots.proofs.reading.list_values.Given as goal

abbrev pub invariant-loop-i : goal.invariant-loop-i
invariant-loop-i g l = record {
  items : number_slots g.T.Number.value l.numbers.items ≡ map Int (read_members (g.T.Number.value l.span.least) (g.S.Slots.set_slots l.slots) (g.N.NullValues.is_null l.nulls) l.i);
  room : vec_capacity l.numbers ≡ l.room;
}
