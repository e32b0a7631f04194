use Rattle.std.proofs.Common.{◌≡◌, take, true}
use Rattle.std.specs.Option.{option_copied}
use Rattle.polars_arrays_flat.specs.StoredRows.{number_slots, rows_under}
use Rattle.polars_compute_slots.specs.State.{are_within, numbers_from}
use Rattle.arrow_unique.proofs.appending.accepts_rows.Given as goal

abbrev pub invariant-loop-i : goal.invariant-loop-i
invariant-loop-i g l =
    are_within (numbers_from (g.T.Number.value l.span.least) l.span.count) (take l.i (rows_under (option_copied l.validity) (number_slots g.T.Number.value l.numbers))) ≡ true
