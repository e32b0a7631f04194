use Rattle.std.proofs.Common.{Bool, List, ◌≤◌, ◌∙◌, ap, arith, false, length, map, sym}
use Rattle.std.specs.Prelude.{ℤ}
use Rattle.std.proofs.lemmas.List.{get_or-map, length-map, take_all}
use Rattle.polars_arrays_flat.specs.Row.{Int, Row}
use Rattle.polars_arrays_flat.specs.StoredRows.{kept, masked, number_slots}
use Rattle.polars_compute_reductions.specs.Folds.{folded, number_or}
use Rattle.polars_compute_reductions.proofs.FoldSteps.{length-masked_slots, masked_slot-number}
use Rattle.polars_compute_reductions.proofs.LaneSteps.{lanes_begin, lanes_more, one_lane}
use Rattle.polars_compute_reductions.proofs.fold.join_flagged.Goals as goal

pub loop-i-init : goal.loop-i-init
loop-i-init g c = lanes_begin g.O.Operator.joined (g.O.Operator.neutral c.args.operator.now) (g.O.Operator.folds_law c.args.operator.now) (number_slots g.T.Number.value c.args.lanes.now)

pub loop-i-preserved : goal.loop-i-preserved
loop-i-preserved g c =
    let bits : List Bool = map g.F.Flag.set c.args.flags.now in
    let same = length-map c.args.flags.now g.F.Flag.set ∙ c.requires.flags in
    let rows : List Row = masked bits (number_slots g.T.Number.value c.args.numbers.now) in
    let long = length-masked_slots g.T.Number.value c.args.numbers.now bits same in
    let bit = get_or-map g.F.Flag.set c.args.flags.now c.loop-i.i c.index-flags-i.result false (omega (arith, c.requires.flags, c.loop-i-test.true)) in
    let add =
    c.choose.ensures
    ∙ ap (λ (n : ℤ). number_or n (kept c.is_set.result (Int (g.T.Number.value c.index-numbers-i.result)))) c.start-start.ensures
    ∙ ap (λ (b : Bool). number_or (g.O.Operator.neutral c.args.operator.now) (kept b (Int (g.T.Number.value c.index-numbers-i.result))))
    (c.is_set.ensures ∙ ap g.F.Flag.set c.index-flags-i.is ∙ sym bit) in
    lanes_more g.O.Operator.joined (g.O.Operator.neutral c.args.operator.now) (g.O.Operator.folds_law c.args.operator.now) rows c.loop-i.i _ _ (g.T.Number.value c.choose.result) _ (omega (arith, long, c.loop-i-test.true)) c.loop-i.invariant
    (masked_slot-number g.T.Number.value c.args.numbers.now bits same (g.O.Operator.neutral c.args.operator.now) c.loop-i.i _ _ c.loop-i-test.true c.index-numbers-i.is add)
    (one_lane g.O.Operator.joined (g.O.Operator.neutral c.args.operator.now) (g.O.Operator.folds_law c.args.operator.now) g.T.Number.value c.loop-i.lanes c.loop-i.i c.index-lanes-i.result c.join.result (g.T.Number.value c.choose.result) (omega (arith, c.loop-i.auto.lanes, c.requires.lanes, c.loop-i-test.true)) c.index-lanes-i.is c.join.ensures)

pub returns-clause-joined : goal.returns-clause-joined
returns-clause-joined g c =
    let bits : List Bool = map g.F.Flag.set c.args.flags.now in
    let rows : List Row = masked bits (number_slots g.T.Number.value c.args.numbers.now) in
    let long = length-masked_slots g.T.Number.value c.args.numbers.now bits (length-map c.args.flags.now g.F.Flag.set ∙ c.requires.flags) in
    let past : length rows ≤ c.loop-i.i = omega (arith, long, c.loop-i-test.false) in
    c.loop-i.invariant
    ∙ ap (λ (rs : List Row). g.O.Operator.joined (folded g.O.Operator.joined (g.O.Operator.neutral c.args.operator.now) (number_slots g.T.Number.value c.args.lanes.now)) (folded g.O.Operator.joined (g.O.Operator.neutral c.args.operator.now) rs)) (take_all c.loop-i.i rows past)
