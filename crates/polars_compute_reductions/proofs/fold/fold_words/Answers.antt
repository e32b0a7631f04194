use Rattle.std.proofs.Common.{◌≡◌, ◌∙◌, ◌+◌, ◌-◌, ◌*◌, ◌/◌, ◌≤◌, ℕ, List, ap, take, drop, length, arith}
use Rattle.polars_arrays_flat.specs.Row.{Row}
use Rattle.polars_arrays_flat.specs.StoredRows.{masked, number_slots}
use Rattle.polars_compute_reductions.specs.Folds.{folded}
use Rattle.polars_compute_reductions.proofs.FoldSteps.{block_rows, fold_block_more, fold_end, length-masked_slots, length-window}
use Rattle.polars_compute_reductions.proofs.fold.fold_words.Goals as goal

pub fold_word-block-requires-after_bounds : goal.fold_word-block-requires-after_bounds
fold_word-block-requires-after_bounds g c κs within =
    let cut : 64 * c.loop-k.k + 64 - 64 * c.loop-k.k ≡ 64 = omega arith in
    let end : 64 * c.loop-k.k + 64 ≤ length c.args.numbers.now = omega (arith, c.loop-k-test.true) in
    ap (λ (n : ℕ). length (take n (drop (64 * c.loop-k.k) c.args.numbers.now))) cut ∙ length-window c.args.numbers.now (64 * c.loop-k.k) 64 end

pub loop-k-preserved : goal.loop-k-preserved
loop-k-preserved g c =
    let next : 64 * (c.loop-k.k + 1) ≡ 64 * c.loop-k.k + 64 = omega arith in
    let cut : 64 * c.loop-k.k + 64 - 64 * c.loop-k.k ≡ 64 = omega arith in
    let rows = masked c.args.mask.now (number_slots g.T.Number.value c.args.numbers.now) in
    let block = c.fold_word-block.ensures ∙ ap (λ (rs : List Row). folded g.O.Operator.joined (g.O.Operator.neutral c.args.operator.now) rs) (block_rows g.T.Number.value c.args.numbers.now c.args.mask.now _ (64 * c.loop-k.k) 64 _ c.word.ensures cut) in
    rw next (fold_block_more g.O.Operator.joined (g.O.Operator.neutral c.args.operator.now) (g.O.Operator.folds_law c.args.operator.now) rows (64 * c.loop-k.k) 64 _ _ _ c.loop-k.invariant block c.join-total.ensures)

pub returns : goal.returns
returns g c =
    let blocks : ℕ = length c.args.numbers.now / 64 in
    let rest : ℕ = length c.args.numbers.now - 64 * blocks in
    let done : c.loop-k.k ≡ blocks = omega (arith, c.loop-k-test.false) in
    let before = rw done at c.loop-k.invariant in
    let cut : 64 * blocks + rest - 64 * blocks ≡ rest = omega arith in
    let rows = masked c.args.mask.now (number_slots g.T.Number.value c.args.numbers.now) in
    let long = length-masked_slots g.T.Number.value c.args.numbers.now c.args.mask.now c.requires in
    let last = c.fold_by_row-last.ensures ∙ ap (λ (rs : List Row). folded g.O.Operator.joined (g.O.Operator.neutral c.args.operator.now) rs) (block_rows g.T.Number.value c.args.numbers.now c.args.mask.now c.window.result (64 * blocks) rest _ c.window.ensures cut) in
    fold_end g.O.Operator.joined (g.O.Operator.neutral c.args.operator.now) (g.O.Operator.folds_law c.args.operator.now) rows (64 * blocks + rest) _ (omega (arith, long))
    (fold_block_more g.O.Operator.joined (g.O.Operator.neutral c.args.operator.now) (g.O.Operator.folds_law c.args.operator.now) rows (64 * blocks) rest _ _ _ before last c.join.ensures)
