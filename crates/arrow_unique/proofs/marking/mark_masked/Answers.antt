use Rattle.std.proofs.Common.{◌≡◌, ◌∙◌, ◌+◌, ◌-◌, ◌*◌, ◌/◌, ◌≤◌, ℕ, List, Bool, take, drop, sym, ap, subst, length, arith}
use Rattle.polars_arrays_flat.specs.Row.{Row}
use Rattle.polars_arrays_flat.specs.StoredRows.{masked, number_slots}
use Rattle.polars_arrays_words.specs.Bits.{first_of, is_bit}
use Rattle.polars_compute_slots.specs.Slots.{HaveSlots}
use Rattle.polars_compute_slots.proofs.RowPlaces.{block_rows, length-masked_slots, length-window, window_slots}
use Rattle.arrow_unique.proofs.Marked.{marked-block, marked-end, marked-none}
use Rattle.arrow_unique.specs.Memory.{AreMarked}
use Rattle.arrow_unique.proofs.marking.mark_masked.Goals as goal

-- the bits of a window of rows, as many as the window is long
window-bits : {A : Type 0} (xs : List A) (bits : List Bool) (word at n m : ℕ) → m ≡ n → at + n ≤ length xs → first_of (is_bit word) n ≡ take n (drop at bits) → first_of (is_bit word) (length (take m (drop at xs))) ≡ take n (drop at bits)
window-bits xs bits word at n m same within is =
    ap (first_of (is_bit word)) (ap (λ (j : ℕ). length (take j (drop at xs))) same ∙ length-window xs at n within) ∙ is

pub loop-k-init : goal.loop-k-init
loop-k-init g c = marked-none (g.T.Number.value c.args.span.now.least) c.args.span.now.count c.args.words.now

pub mark_word-requires-clause-fit : goal.mark_word-requires-clause-fit
mark_word-requires-clause-fit g c κs within =
    let value = g.T.Number.value in
    let rows = masked c.args.mask.now (number_slots value c.args.numbers.now) in
    let long = length-masked_slots value c.args.numbers.now c.args.mask.now c.requires.bits in
    let cut : 64 * c.loop-k.k + 64 - 64 * c.loop-k.k ≡ 64 = omega arith in
    let bits = window-bits c.args.numbers.now c.args.mask.now c.word.result (64 * c.loop-k.k) 64 _ cut (omega (arith, c.loop-k-test.true)) c.word.ensures in
    subst (HaveSlots (value c.args.span.now.least) c.args.span.now.count) (sym (block_rows value c.args.numbers.now c.args.mask.now _ (64 * c.loop-k.k) 64 _ bits cut))
    (window_slots (value c.args.span.now.least) c.args.span.now.count rows (64 * c.loop-k.k) 64 c.requires.fit (omega (arith, long, c.loop-k-test.true)))

pub loop-k-preserved : goal.loop-k-preserved
loop-k-preserved g c =
    let value = g.T.Number.value in
    let least = value c.args.span.now.least in
    let rows = masked c.args.mask.now (number_slots value c.args.numbers.now) in
    let next : 64 * (c.loop-k.k + 1) ≡ 64 * c.loop-k.k + 64 = omega arith in
    let cut : 64 * c.loop-k.k + 64 - 64 * c.loop-k.k ≡ 64 = omega arith in
    let bits = window-bits c.args.numbers.now c.args.mask.now c.word.result (64 * c.loop-k.k) 64 _ cut (omega (arith, c.loop-k-test.true)) c.word.ensures in
    let block = subst (λ (rs : List Row). AreMarked least c.args.span.now.count rs c.loop-k.words c.mark_word.new.words) (block_rows value c.args.numbers.now c.args.mask.now _ (64 * c.loop-k.k) 64 _ bits cut) c.mark_word.ensures in
    rw next (marked-block least c.args.span.now.count rows c.args.words.now c.loop-k.words c.mark_word.new.words (64 * c.loop-k.k) 64 c.loop-k.invariant block)

pub mark_word-requires-2-clause-fit : goal.mark_word-requires-2-clause-fit
mark_word-requires-2-clause-fit g c κs within =
    let value = g.T.Number.value in
    let rows = masked c.args.mask.now (number_slots value c.args.numbers.now) in
    let long = length-masked_slots value c.args.numbers.now c.args.mask.now c.requires.bits in
    let blocks : ℕ = length c.args.numbers.now / 64 in
    let rest : ℕ = length c.args.numbers.now - 64 * blocks in
    let cut : 64 * blocks + rest - 64 * blocks ≡ rest = omega arith in
    let bits = window-bits c.args.numbers.now c.args.mask.now c.few_bits.result (64 * blocks) rest _ cut (omega arith) c.few_bits.ensures.bits in
    subst (HaveSlots (value c.args.span.now.least) c.args.span.now.count) (sym (block_rows value c.args.numbers.now c.args.mask.now _ (64 * blocks) rest _ bits cut))
    (window_slots (value c.args.span.now.least) c.args.span.now.count rows (64 * blocks) rest c.requires.fit (omega (arith, long)))

pub returns : goal.returns
returns g c =
    let value = g.T.Number.value in
    let least = value c.args.span.now.least in
    let rows = masked c.args.mask.now (number_slots value c.args.numbers.now) in
    let long = length-masked_slots value c.args.numbers.now c.args.mask.now c.requires.bits in
    let blocks : ℕ = length c.args.numbers.now / 64 in
    let rest : ℕ = length c.args.numbers.now - 64 * blocks in
    let done : c.loop-k.k ≡ blocks = omega (arith, c.loop-k-test.false) in
    let before = rw done at c.loop-k.invariant in
    let cut : 64 * blocks + rest - 64 * blocks ≡ rest = omega arith in
    let bits = window-bits c.args.numbers.now c.args.mask.now c.few_bits.result (64 * blocks) rest _ cut (omega arith) c.few_bits.ensures.bits in
    let last = subst (λ (rs : List Row). AreMarked least c.args.span.now.count rs c.loop-k.words c.mark_word-2.new.words) (block_rows value c.args.numbers.now c.args.mask.now _ (64 * blocks) rest _ bits cut) c.mark_word-2.ensures in
    marked-end least c.args.span.now.count rows c.args.words.now c.mark_word-2.new.words (64 * blocks + rest) (omega (arith, long))
    (marked-block least c.args.span.now.count rows c.args.words.now c.loop-k.words c.mark_word-2.new.words (64 * blocks) rest before last)
