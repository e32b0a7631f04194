use Rattle.std.proofs.Common.{◌≡◌, take, map}
use Rattle.polars_arrays_flat.specs.StoredRows.{masked, number_slots}
use Rattle.polars_compute_reductions.specs.Folds.{folded}
use Rattle.polars_compute_reductions.proofs.fold.join_flagged.Given as goal

abbrev pub invariant-loop-i : goal.invariant-loop-i
invariant-loop-i g l =
    folded g.O.Operator.joined (g.O.Operator.neutral l.operator) (number_slots g.T.Number.value l.lanes) ≡ g.O.Operator.joined (folded g.O.Operator.joined (g.O.Operator.neutral l.operator) (number_slots g.T.Number.value l.fn.lanes)) (folded g.O.Operator.joined (g.O.Operator.neutral l.operator) (take l.i (masked (map g.F.Flag.set l.flags) (number_slots g.T.Number.value l.numbers))))
