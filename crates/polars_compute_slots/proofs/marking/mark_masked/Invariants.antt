use Rattle.std.proofs.Common.{◌*◌, take}
use Rattle.polars_arrays_flat.specs.StoredRows.{masked, number_slots}
use Rattle.polars_compute_slots.specs.Slots.{Marks}
use Rattle.polars_compute_slots.proofs.marking.mark_masked.Given as goal

abbrev pub invariant-loop-k : goal.invariant-loop-k
invariant-loop-k g l =
    Marks (g.T.Number.value l.span.least) l.span.count (take (64 * l.k) (masked l.mask (number_slots g.T.Number.value l.numbers))) (g.S.Slots.set_slots l.fn.slots) (g.S.Slots.set_slots l.slots)
