use Rattle.std.proofs.Common.{arith}
use Rattle.polars_arrays_flat.specs.StoredRows.{number_slots}
use Rattle.polars_compute_reductions.proofs.FoldSteps.{fold_more, length-slots, slot-number}
use Rattle.polars_compute_reductions.proofs.fold.fold_all_both.Goals as goal

pub loop-number-preserved : goal.loop-number-preserved
loop-number-preserved g c =
    let rows = number_slots g.T.Number.value c.args.numbers.now in
    let long = length-slots g.T.Number.value c.args.numbers.now in (
      fold_more g.A.Operator.joined (g.A.Operator.neutral c.args.first.now) (g.A.Operator.folds_law c.args.first.now) rows c.loop-number.number-index _ _ _
          (omega (arith, long, c.loop-number-test.true)) c.loop-number.invariant.0
          (slot-number g.T.Number.value c.args.numbers.now (g.A.Operator.neutral c.args.first.now) c.loop-number.number-index _ c.loop-number-test.true c.number-item.is) c.join-total.ensures,
      fold_more g.B.Operator.joined (g.B.Operator.neutral c.args.second.now) (g.B.Operator.folds_law c.args.second.now) rows c.loop-number.number-index _ _ _
          (omega (arith, long, c.loop-number-test.true)) c.loop-number.invariant.1
          (slot-number g.T.Number.value c.args.numbers.now (g.B.Operator.neutral c.args.second.now) c.loop-number.number-index _ c.loop-number-test.true c.number-item.is) c.join-other.ensures,
    )
