use Rattle.std.proofs.Common.{Bool, List, ◌∙◌, ap, arith, false, map, sym}
use Rattle.std.specs.Prelude.{ℤ}
use Rattle.std.proofs.lemmas.List.{get_or-map, length-map}
use Rattle.polars_arrays_flat.specs.Row.{Int}
use Rattle.polars_arrays_flat.specs.StoredRows.{kept, masked, number_slots}
use Rattle.polars_compute_reductions.specs.Folds.{number_or}
use Rattle.polars_compute_reductions.proofs.FoldSteps.{fold_end, fold_more, length-masked_slots, masked_slot-number}
use Rattle.polars_compute_reductions.proofs.fold.fold_flagged.Goals as goal

pub loop-i-preserved : goal.loop-i-preserved
loop-i-preserved g c =
    let bits : List Bool = map g.F.Flag.set c.args.flags.now in
    let same = length-map c.args.flags.now g.F.Flag.set ∙ c.requires in
    let rows = masked bits (number_slots g.T.Number.value c.args.numbers.now) in
    let long = length-masked_slots g.T.Number.value c.args.numbers.now bits same in
    let bit = get_or-map g.F.Flag.set c.args.flags.now c.loop-i.i c.index-flags-i.result false (omega (arith, c.requires, c.loop-i-test.true)) in
    let add =
    c.choose.ensures
    ∙ ap (λ (n : ℤ). number_or n (kept c.is_set.result (Int (g.T.Number.value c.index-numbers-i.result)))) c.start-start.ensures
    ∙ ap (λ (b : Bool). number_or (g.O.Operator.neutral c.args.operator.now) (kept b (Int (g.T.Number.value c.index-numbers-i.result))))
    (c.is_set.ensures ∙ ap g.F.Flag.set c.index-flags-i.is ∙ sym bit) in
    fold_more g.O.Operator.joined (g.O.Operator.neutral c.args.operator.now) (g.O.Operator.folds_law c.args.operator.now) rows c.loop-i.i _ _ _ (omega (arith, long, c.loop-i-test.true)) c.loop-i.invariant
    (masked_slot-number g.T.Number.value c.args.numbers.now bits same (g.O.Operator.neutral c.args.operator.now) c.loop-i.i _ _ c.loop-i-test.true c.index-numbers-i.is add) c.join-total.ensures

pub returns : goal.returns
returns g c =
    let bits : List Bool = map g.F.Flag.set c.args.flags.now in
    let same = length-map c.args.flags.now g.F.Flag.set ∙ c.requires in
    let rows = masked bits (number_slots g.T.Number.value c.args.numbers.now) in
    let long = length-masked_slots g.T.Number.value c.args.numbers.now bits same in
    fold_end g.O.Operator.joined (g.O.Operator.neutral c.args.operator.now) (g.O.Operator.folds_law c.args.operator.now) rows c.loop-i.i _ (omega (arith, long, c.loop-i-test.false)) c.loop-i.invariant
