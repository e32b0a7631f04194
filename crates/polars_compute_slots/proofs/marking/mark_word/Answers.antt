use Rattle.std.proofs.Common.{◌≡◌, ◌<◌, ◌∙◌, List, Bool, false, sym, ap, arith, length, ◌/◌, ◌^◌, eqb, bit_and}
use Rattle.std.specs.Prelude.{slice_index_or}
use Rattle.polars_arrays_flat.specs.Row.{Int}
use Rattle.polars_arrays_flat.specs.StoredRows.{kept, masked, number_slots}
use Rattle.polars_arrays_words.specs.Bits.{first_of, is_bit as bit_at}
use Rattle.polars_compute_slots.proofs.WordBits.{length-first, word-bit}
use Rattle.polars_compute_slots.specs.Slots.{slot_of}
use Rattle.polars_compute_slots.proofs.Marked.{Marks-end, Marks-more, Marks-none, slot-below}
use Rattle.polars_compute_slots.proofs.RowPlaces.{has_slot, length-masked_slots, row-masked_slots}
use Rattle.polars_compute_slots.proofs.marking.mark_word.Goals as goal

pub loop-i-init : goal.loop-i-init
loop-i-init g c = Marks-none (g.T.Number.value c.args.span.now.least) c.args.span.now.count (g.S.Slots.set_slots c.args.slots.now)

pub row_slot-requires-after_bounds : goal.row_slot-requires-after_bounds
row_slot-requires-after_bounds g c κs within =
    let value = g.T.Number.value in
    let bits : List Bool = first_of (bit_at c.args.word) 64 in
    let long : length bits ≡ length c.args.numbers.now = length-first (bit_at c.args.word) 64 ∙ sym c.requires.few in
    let is_bit : eqb (bit_and (c.args.word / 2 ^ c.loop-i.i) 1) 1 ≡ slice_index_or bits c.loop-i.i false = word-bit c.args.word 64 c.loop-i.i (omega (arith, c.requires.few, c.loop-i-test.true)) in
    has_slot (value c.args.span.now.least) c.args.span.now.count (masked bits (number_slots value c.args.numbers.now)) c.loop-i.i (kept (eqb (bit_and (c.args.word / 2 ^ c.loop-i.i) 1) 1) (Int (value c.index-numbers-i.result))) c.requires.fit
    (omega (arith, length-masked_slots value c.args.numbers.now bits long, c.loop-i-test.true))
    (row-masked_slots value c.args.numbers.now bits long c.loop-i.i c.index-numbers-i.result (eqb (bit_and (c.args.word / 2 ^ c.loop-i.i) 1) 1) c.loop-i-test.true c.index-numbers-i.is is_bit)

pub set-requires : goal.set-requires
set-requires g c =
    let value = g.T.Number.value in
    let bits : List Bool = first_of (bit_at c.args.word) 64 in
    let long : length bits ≡ length c.args.numbers.now = length-first (bit_at c.args.word) 64 ∙ sym c.requires.few in
    let is_bit : eqb (bit_and (c.args.word / 2 ^ c.loop-i.i) 1) 1 ≡ slice_index_or bits c.loop-i.i false = word-bit c.args.word 64 c.loop-i.i (omega (arith, c.requires.few, c.loop-i-test.true)) in
    let fit =
    has_slot (value c.args.span.now.least) c.args.span.now.count (masked bits (number_slots value c.args.numbers.now)) c.loop-i.i (kept (eqb (bit_and (c.args.word / 2 ^ c.loop-i.i) 1) 1) (Int (value c.index-numbers-i.result))) c.requires.fit
    (omega (arith, length-masked_slots value c.args.numbers.now bits long, c.loop-i-test.true))
    (row-masked_slots value c.args.numbers.now bits long c.loop-i.i c.index-numbers-i.result (eqb (bit_and (c.args.word / 2 ^ c.loop-i.i) 1) 1) c.loop-i-test.true c.index-numbers-i.is is_bit) in
    omega (arith, slot-below (value c.args.span.now.least) c.args.span.now.count (kept (eqb (bit_and (c.args.word / 2 ^ c.loop-i.i) 1) 1) (Int (value c.index-numbers-i.result))) fit, c.row_slot.ensures, c.requires.size, c.loop-i.invariant.size)

pub loop-i-preserved : goal.loop-i-preserved
loop-i-preserved g c =
    let value = g.T.Number.value in
    let least = value c.args.span.now.least in
    let bits : List Bool = first_of (bit_at c.args.word) 64 in
    let long : length bits ≡ length c.args.numbers.now = length-first (bit_at c.args.word) 64 ∙ sym c.requires.few in
    let rows = masked bits (number_slots value c.args.numbers.now) in
    let is_bit : eqb (bit_and (c.args.word / 2 ^ c.loop-i.i) 1) 1 ≡ slice_index_or bits c.loop-i.i false = word-bit c.args.word 64 c.loop-i.i (omega (arith, c.requires.few, c.loop-i-test.true)) in
    let below : c.loop-i.i < length rows = omega (arith, length-masked_slots value c.args.numbers.now bits long, c.loop-i-test.true) in
    let is = row-masked_slots value c.args.numbers.now bits long c.loop-i.i c.index-numbers-i.result (eqb (bit_and (c.args.word / 2 ^ c.loop-i.i) 1) 1) c.loop-i-test.true c.index-numbers-i.is is_bit in
    Marks-more least c.args.span.now.count rows (g.S.Slots.set_slots c.args.slots.now) (g.S.Slots.set_slots c.loop-i.slots) (g.S.Slots.set_slots c.set.new.self) c.loop-i.i c.row_slot.result
    c.requires.size c.loop-i.invariant below (c.requires.fit.each c.loop-i.i below)
    (c.row_slot.ensures ∙ ap (slot_of least c.args.span.now.count) (sym is)) c.set.ensures

pub returns : goal.returns
returns g c =
    let value = g.T.Number.value in
    let bits : List Bool = first_of (bit_at c.args.word) 64 in
    let long : length bits ≡ length c.args.numbers.now = length-first (bit_at c.args.word) 64 ∙ sym c.requires.few in
    Marks-end (value c.args.span.now.least) c.args.span.now.count (masked bits (number_slots value c.args.numbers.now)) (g.S.Slots.set_slots c.args.slots.now) (g.S.Slots.set_slots c.loop-i.slots) c.loop-i.i
    (omega (arith, length-masked_slots value c.args.numbers.now bits long, c.loop-i-test.false)) c.loop-i.invariant
