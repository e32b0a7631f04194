use Rattle.std.proofs.Common.{take}
use Rattle.polars_arrays_flat.specs.StoredRows.{number_slots}
use Rattle.arrow_unique.specs.Memory.{AreMarked}
use Rattle.arrow_unique.proofs.marking.mark_all.Given as goal

abbrev pub invariant-loop-i : goal.invariant-loop-i
invariant-loop-i g l =
    AreMarked (g.T.Number.value l.span.least) l.span.count (take l.i (number_slots g.T.Number.value l.numbers)) l.fn.words l.words
