use Rattle.std.proofs.Common.{take}
use Rattle.polars_arrays_flat.specs.StoredRows.{masked, number_slots}
use Rattle.polars_compute_slots.specs.Slots.{Marks}
use Rattle.polars_compute_slots.proofs.marking.mark_few.Given as goal

abbrev pub invariant-loop-i : goal.invariant-loop-i
invariant-loop-i g l =
    Marks (g.T.Number.value l.span.least) l.span.count (take l.i (masked l.mask (number_slots g.T.Number.value l.numbers))) (g.S.Slots.set_slots l.fn.slots) (g.S.Slots.set_slots l.slots)
