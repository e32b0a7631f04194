use Rattle.std.proofs.Common.{◌≡◌, ◌∙◌, ◌+◌, ◌-◌, ◌*◌, ◌/◌, ℕ, Bool, List, ap, length, arith}
use Rattle.polars_arrays_flat.specs.Row.{Row}
use Rattle.polars_arrays_flat.specs.StoredRows.{masked, number_slots}
use Rattle.polars_compute_reductions.specs.Folds.{folded}
use Rattle.polars_compute_reductions.proofs.FoldSteps.{block_rows, fold_block_more, fold_end, length-masked_slots, length-window}
use Rattle.polars_compute_reductions.proofs.fold.fold_present.Goals as goal

pub fold_run-run-requires-clause-bits : goal.fold_run-run-requires-clause-bits
fold_run-run-requires-clause-bits g c κs within =
    ap (λ (bs : List Bool). length bs) c.window.ensures ∙ length-window c.args.mask.now (2048 * c.loop-k.k) 2048 (omega (arith, c.requires, c.loop-k-test.true))

pub loop-k-preserved : goal.loop-k-preserved
loop-k-preserved g c =
    let next : 2048 * (c.loop-k.k + 1) ≡ 2048 * c.loop-k.k + 2048 = omega arith in
    let cut : 2048 * c.loop-k.k + 2048 - 2048 * c.loop-k.k ≡ 2048 = omega arith in
    let rows = masked c.args.mask.now (number_slots g.T.Number.value c.args.numbers.now) in
    let block = c.fold_run-run.ensures ∙ ap (λ (rs : List Row). folded g.O.Operator.joined (g.O.Operator.neutral c.args.operator.now) rs) (block_rows g.T.Number.value c.args.numbers.now c.args.mask.now _ (2048 * c.loop-k.k) 2048 _ c.window.ensures cut) in
    rw next (fold_block_more g.O.Operator.joined (g.O.Operator.neutral c.args.operator.now) (g.O.Operator.folds_law c.args.operator.now) rows (2048 * c.loop-k.k) 2048 _ _ _ c.loop-k.invariant block c.join-total.ensures)

pub returns : goal.returns
returns g c =
    let blocks : ℕ = length c.args.numbers.now / 2048 in
    let rest : ℕ = length c.args.numbers.now - 2048 * blocks in
    let done : c.loop-k.k ≡ blocks = omega (arith, c.loop-k-test.false) in
    let before = rw done at c.loop-k.invariant in
    let cut : 2048 * blocks + rest - 2048 * blocks ≡ rest = omega arith in
    let rows = masked c.args.mask.now (number_slots g.T.Number.value c.args.numbers.now) in
    let long = length-masked_slots g.T.Number.value c.args.numbers.now c.args.mask.now c.requires in
    let last = c.fold_words-last.ensures ∙ ap (λ (rs : List Row). folded g.O.Operator.joined (g.O.Operator.neutral c.args.operator.now) rs) (block_rows g.T.Number.value c.args.numbers.now c.args.mask.now c.window-2.result (2048 * blocks) rest _ c.window-2.ensures cut) in
    fold_end g.O.Operator.joined (g.O.Operator.neutral c.args.operator.now) (g.O.Operator.folds_law c.args.operator.now) rows (2048 * blocks + rest) _ (omega (arith, long))
    (fold_block_more g.O.Operator.joined (g.O.Operator.neutral c.args.operator.now) (g.O.Operator.folds_law c.args.operator.now) rows (2048 * blocks) rest _ _ _ before last c.join.ensures)
