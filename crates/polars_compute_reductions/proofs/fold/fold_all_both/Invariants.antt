use Rattle.std.proofs.Common.{◌≡◌, take}
use Rattle.polars_arrays_flat.specs.StoredRows.{number_slots}
use Rattle.polars_compute_reductions.specs.Folds.{folded}
use Rattle.polars_compute_reductions.proofs.fold.fold_all_both.Given as goal

abbrev pub invariant-loop-number : goal.invariant-loop-number
invariant-loop-number g l =
    (g.T.Number.value l.total ≡ folded g.A.Operator.joined (g.A.Operator.neutral l.first) (take l.number-index (number_slots g.T.Number.value l.numbers)))
    × (g.T.Number.value l.other ≡ folded g.B.Operator.joined (g.B.Operator.neutral l.second) (take l.number-index (number_slots g.T.Number.value l.numbers)))
