use Rattle.std.proofs.Common.{◌∙◌, List, ap, sym}
use Rattle.std.specs.Prelude.{ℤ}
use Rattle.polars_arrays_flat.specs.ArrayRows.{truth_rows}
use Rattle.polars_compute_slots.specs.State.{are_within, range_of}
use Rattle.polars_compute_unique.proofs.TruthCounts.{all-truths}
use Rattle.polars_compute_unique.proofs.boolean.BooleanUniqueKernelStateRangedUniqueKernel.accepts.Goals as goal

pub returns : goal.returns
returns c =
    sym (all-truths c.args._array.now.validity c.args._array.now.values)
    ∙ ap (λ (range : List ℤ). are_within range (truth_rows c.args._array.now)) (ap range_of c.self.view_is)
