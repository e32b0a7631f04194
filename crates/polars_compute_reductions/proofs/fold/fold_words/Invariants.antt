use Rattle.std.proofs.Common.{◌≡◌, ◌*◌, take}
use Rattle.polars_arrays_flat.specs.StoredRows.{masked, number_slots}
use Rattle.polars_compute_reductions.specs.Folds.{folded}
use Rattle.polars_compute_reductions.proofs.fold.fold_words.Given as goal

abbrev pub invariant-loop-k : goal.invariant-loop-k
invariant-loop-k g l = g.T.Number.value l.total ≡ folded g.O.Operator.joined (g.O.Operator.neutral l.operator) (take (64 * l.k) (masked l.mask (number_slots g.T.Number.value l.numbers)))
