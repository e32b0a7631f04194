use Rattle.std.proofs.Common.{◌≡◌, ◌∙◌, ◌+◌, ◌-◌, ◌*◌, List, ap, sym, arith}
use Rattle.polars_arrays_flat.specs.Row.{Row}
use Rattle.polars_arrays_flat.specs.StoredRows.{masked, number_slots}
use Rattle.polars_compute_reductions.specs.Folds.{folded}
use Rattle.polars_compute_reductions.proofs.FoldSteps.{block_rows, fold_block_more, fold_end, length-masked_slots}
use Rattle.polars_compute_reductions.proofs.LaneSteps.{new_lanes}
use Rattle.polars_compute_reductions.proofs.fold.fold_in_lanes.Goals as goal

pub loop-k-init : goal.loop-k-init
loop-k-init g c =
    new_lanes g.O.Operator.joined (g.O.Operator.neutral c.args.operator.now) (g.O.Operator.folds_law c.args.operator.now) g.T.Number.value 64 c.start-lanes.result c.start-lanes.ensures

pub loop-k-preserved : goal.loop-k-preserved
loop-k-preserved g c =
    let next : 64 * (c.loop-k.k + 1) ≡ 64 * c.loop-k.k + 64 = omega arith in
    let cut : 64 * c.loop-k.k + 64 - 64 * c.loop-k.k ≡ 64 = omega arith in
    let rows = masked c.args.mask.now (number_slots g.T.Number.value c.args.numbers.now) in
    let block = ap (λ (rs : List Row). folded g.O.Operator.joined (g.O.Operator.neutral c.args.operator.now) rs) (block_rows g.T.Number.value c.args.numbers.now c.args.mask.now _ (64 * c.loop-k.k) 64 _ c.word.ensures cut) in
    rw next (fold_block_more g.O.Operator.joined (g.O.Operator.neutral c.args.operator.now) (g.O.Operator.folds_law c.args.operator.now) rows (64 * c.loop-k.k) 64 _ _ _ c.loop-k.invariant block c.join_mixed.ensures.joined)

pub returns : goal.returns
returns g c =
    let rows = masked c.args.mask.now (number_slots g.T.Number.value c.args.numbers.now) in
    let long = length-masked_slots g.T.Number.value c.args.numbers.now c.args.mask.now (c.requires.bits ∙ sym c.requires.run) in
    c.fold_all.ensures
    ∙ fold_end g.O.Operator.joined (g.O.Operator.neutral c.args.operator.now) (g.O.Operator.folds_law c.args.operator.now) rows (64 * c.loop-k.k) _ (omega (arith, long, c.requires.run, c.loop-k-test.false)) c.loop-k.invariant
