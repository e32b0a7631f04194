use Rattle.std.proofs.Common.{◌∙◌, List, ap}
use Rattle.std.specs.Prelude.{ℤ}
use Rattle.polars_arrays_flat.specs.ArrayRows.{truth_rows}
use Rattle.polars_compute_slots.specs.State.{are_within, range_of}
use Rattle.polars_compute_unique.proofs.TruthCounts.{all-truths}
use Rattle.polars_compute_unique.proofs.boolean.state_of.Goals as goal

pub append-requires-clause-within : goal.append-requires-clause-within
append-requires-clause-within c =
    ap (λ (range : List ℤ). are_within range (truth_rows c.args.array.now)) (ap range_of c.new-state.ensures)
    ∙ all-truths c.args.array.now.validity c.args.array.now.values
