use Rattle.std.proofs.Common.{◌*◌, take}
use Rattle.polars_arrays_flat.specs.StoredRows.{masked, number_slots}
use Rattle.arrow_unique.specs.Memory.{AreMarked}
use Rattle.arrow_unique.proofs.marking.mark_masked.Given as goal

abbrev pub invariant-loop-k : goal.invariant-loop-k
invariant-loop-k g l =
    AreMarked (g.T.Number.value l.span.least) l.span.count (take (64 * l.k) (masked l.mask (number_slots g.T.Number.value l.numbers))) l.fn.words l.words
