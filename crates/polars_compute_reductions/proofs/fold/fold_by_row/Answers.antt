use Rattle.std.proofs.Common.{Bool, ◌∙◌, ap, arith, false, sym}
use Rattle.std.specs.Prelude.{ℤ}
use Rattle.std.proofs.lemmas.Option.{get_or_from_slice_get}
use Rattle.polars_arrays_flat.specs.Row.{Int}
use Rattle.polars_arrays_flat.specs.StoredRows.{kept, masked, number_slots}
use Rattle.polars_compute_reductions.specs.Folds.{number_or}
use Rattle.polars_compute_reductions.proofs.FoldSteps.{fold_end, fold_more, length-masked_slots, masked_slot-number}
use Rattle.polars_compute_reductions.proofs.fold.fold_by_row.Goals as goal

pub loop-i-preserved : goal.loop-i-preserved
loop-i-preserved g c =
    let rows = masked c.args.mask.now (number_slots g.T.Number.value c.args.numbers.now) in
    let long = length-masked_slots g.T.Number.value c.args.numbers.now c.args.mask.now c.requires in
    let bit = get_or_from_slice_get c.args.mask.now c.loop-i.i c.get.result false c.get.ensures in
    let add =
    c.choose.ensures
    ∙ ap (λ (n : ℤ). number_or n (kept c.get.result (Int (g.T.Number.value c.index-numbers-i.result)))) c.start-start.ensures
    ∙ ap (λ (b : Bool). number_or (g.O.Operator.neutral c.args.operator.now) (kept b (Int (g.T.Number.value c.index-numbers-i.result)))) (sym bit) in
    fold_more g.O.Operator.joined (g.O.Operator.neutral c.args.operator.now) (g.O.Operator.folds_law c.args.operator.now) rows c.loop-i.i _ _ _ (omega (arith, long, c.loop-i-test.true)) c.loop-i.invariant
    (masked_slot-number g.T.Number.value c.args.numbers.now c.args.mask.now c.requires (g.O.Operator.neutral c.args.operator.now) c.loop-i.i _ _ c.loop-i-test.true c.index-numbers-i.is add) c.join-total.ensures

pub returns : goal.returns
returns g c =
    let rows = masked c.args.mask.now (number_slots g.T.Number.value c.args.numbers.now) in
    let long = length-masked_slots g.T.Number.value c.args.numbers.now c.args.mask.now c.requires in
    fold_end g.O.Operator.joined (g.O.Operator.neutral c.args.operator.now) (g.O.Operator.folds_law c.args.operator.now) rows c.loop-i.i _ (omega (arith, long, c.loop-i-test.false)) c.loop-i.invariant
