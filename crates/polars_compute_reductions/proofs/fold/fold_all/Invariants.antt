use Rattle.std.proofs.Common.{◌≡◌, take}
use Rattle.polars_arrays_flat.specs.StoredRows.{number_slots}
use Rattle.polars_compute_reductions.specs.Folds.{folded}
use Rattle.polars_compute_reductions.proofs.fold.fold_all.Given as goal

abbrev pub invariant-loop-number : goal.invariant-loop-number
invariant-loop-number g l = g.T.Number.value l.total ≡ folded g.O.Operator.joined (g.O.Operator.neutral l.operator) (take l.number-index (number_slots g.T.Number.value l.numbers))
