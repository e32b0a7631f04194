use Rattle.std.proofs.Common.{arith}
use Rattle.polars_arrays_flat.specs.StoredRows.{number_slots}
use Rattle.polars_compute_reductions.proofs.FoldSteps.{fold_more, length-slots, slot-number}
use Rattle.polars_compute_reductions.proofs.fold.fold_all.Goals as goal

pub loop-number-preserved : goal.loop-number-preserved
loop-number-preserved g c =
    let rows = number_slots g.T.Number.value c.args.numbers.now in
    let long = length-slots g.T.Number.value c.args.numbers.now in
    fold_more g.O.Operator.joined (g.O.Operator.neutral c.args.operator.now) (g.O.Operator.folds_law c.args.operator.now) rows c.loop-number.number-index _ _ _
    (omega (arith, long, c.loop-number-test.true)) c.loop-number.invariant
    (slot-number g.T.Number.value c.args.numbers.now (g.O.Operator.neutral c.args.operator.now) c.loop-number.number-index _ c.loop-number-test.true c.number-item.is) c.join-total.ensures
