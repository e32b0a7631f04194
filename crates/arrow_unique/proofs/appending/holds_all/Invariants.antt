use Rattle.std.proofs.Common.{◌≡◌, take}
use Rattle.polars_arrays_flat.specs.StoredRows.{number_slots}
use Rattle.polars_compute_slots.specs.State.{are_within, numbers_from}
use Rattle.arrow_unique.proofs.appending.holds_all.Given as goal

abbrev pub invariant-loop-i : goal.invariant-loop-i
invariant-loop-i g l =
    l.all ≡ are_within (numbers_from (g.T.Number.value l.span.least) l.span.count) (take l.i (number_slots g.T.Number.value l.numbers))
