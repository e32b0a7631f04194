use Rattle.std.proofs.Common.{◌≡◌, ◌+◌, ◌-◌, ◌*◌, ◌/◌, ℕ, List, sym, subst, length, arith}
use Rattle.polars_arrays_flat.specs.Row.{Row}
use Rattle.polars_arrays_flat.specs.StoredRows.{masked, number_slots}
use Rattle.polars_compute_slots.specs.Slots.{HaveSlots, Marks}
use Rattle.polars_compute_slots.proofs.Marked.{Marks-block, Marks-end, Marks-none}
use Rattle.polars_compute_slots.proofs.RowPlaces.{block_rows, length-masked_slots, window_slots}
use Rattle.polars_compute_slots.proofs.marking.mark_masked.Goals as goal

pub loop-k-init : goal.loop-k-init
loop-k-init g c = Marks-none (g.T.Number.value c.args.span.now.least) c.args.span.now.count (g.S.Slots.set_slots c.args.slots.now)

pub mark_word-requires-clause-fit : goal.mark_word-requires-clause-fit
mark_word-requires-clause-fit g c κs within =
    let value = g.T.Number.value in
    let rows = masked c.args.mask.now (number_slots value c.args.numbers.now) in
    let long = length-masked_slots value c.args.numbers.now c.args.mask.now c.requires.bits in
    let cut : 64 * c.loop-k.k + 64 - 64 * c.loop-k.k ≡ 64 = omega arith in
    subst (HaveSlots (value c.args.span.now.least) c.args.span.now.count) (sym (block_rows value c.args.numbers.now c.args.mask.now _ (64 * c.loop-k.k) 64 _ c.word.ensures cut))
    (window_slots (value c.args.span.now.least) c.args.span.now.count rows (64 * c.loop-k.k) 64 c.requires.fit (omega (arith, long, c.loop-k-test.true)))

pub loop-k-preserved : goal.loop-k-preserved
loop-k-preserved g c =
    let value = g.T.Number.value in
    let least = value c.args.span.now.least in
    let rows = masked c.args.mask.now (number_slots value c.args.numbers.now) in
    let next : 64 * (c.loop-k.k + 1) ≡ 64 * c.loop-k.k + 64 = omega arith in
    let cut : 64 * c.loop-k.k + 64 - 64 * c.loop-k.k ≡ 64 = omega arith in
    let block = subst (λ (rs : List Row). Marks least c.args.span.now.count rs (g.S.Slots.set_slots c.loop-k.slots) (g.S.Slots.set_slots c.mark_word.new.slots)) (block_rows value c.args.numbers.now c.args.mask.now _ (64 * c.loop-k.k) 64 _ c.word.ensures cut) c.mark_word.ensures in
    rw next (Marks-block least c.args.span.now.count rows (g.S.Slots.set_slots c.args.slots.now) (g.S.Slots.set_slots c.loop-k.slots) (g.S.Slots.set_slots c.mark_word.new.slots) (64 * c.loop-k.k) 64 c.loop-k.invariant block)

pub mark_few-requires-clause-fit : goal.mark_few-requires-clause-fit
mark_few-requires-clause-fit g c κs within =
    let value = g.T.Number.value in
    let rows = masked c.args.mask.now (number_slots value c.args.numbers.now) in
    let long = length-masked_slots value c.args.numbers.now c.args.mask.now c.requires.bits in
    let blocks : ℕ = length c.args.numbers.now / 64 in
    let rest : ℕ = length c.args.numbers.now - 64 * blocks in
    let cut : 64 * blocks + rest - 64 * blocks ≡ rest = omega arith in
    subst (HaveSlots (value c.args.span.now.least) c.args.span.now.count) (sym (block_rows value c.args.numbers.now c.args.mask.now c.window.result (64 * blocks) rest _ c.window.ensures cut))
    (window_slots (value c.args.span.now.least) c.args.span.now.count rows (64 * blocks) rest c.requires.fit (omega (arith, long)))

pub returns : goal.returns
returns g c =
    let value = g.T.Number.value in
    let least = value c.args.span.now.least in
    let rows = masked c.args.mask.now (number_slots value c.args.numbers.now) in
    let long = length-masked_slots value c.args.numbers.now c.args.mask.now c.requires.bits in
    let blocks : ℕ = length c.args.numbers.now / 64 in
    let rest : ℕ = length c.args.numbers.now - 64 * blocks in
    let done : c.loop-k.k ≡ blocks = omega (arith, c.loop-k-test.false) in
    let before = rw done at c.loop-k.invariant in
    let cut : 64 * blocks + rest - 64 * blocks ≡ rest = omega arith in
    let last = subst (λ (rs : List Row). Marks least c.args.span.now.count rs (g.S.Slots.set_slots c.loop-k.slots) (g.S.Slots.set_slots c.mark_few.new.slots)) (block_rows value c.args.numbers.now c.args.mask.now c.window.result (64 * blocks) rest _ c.window.ensures cut) c.mark_few.ensures in
    Marks-end least c.args.span.now.count rows (g.S.Slots.set_slots c.args.slots.now) (g.S.Slots.set_slots c.mark_few.new.slots) (64 * blocks + rest) (omega (arith, long))
    (Marks-block least c.args.span.now.count rows (g.S.Slots.set_slots c.args.slots.now) (g.S.Slots.set_slots c.loop-k.slots) (g.S.Slots.set_slots c.mark_few.new.slots) (64 * blocks) rest before last)
