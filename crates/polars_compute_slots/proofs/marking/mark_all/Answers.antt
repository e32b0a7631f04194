use Rattle.std.proofs.Common.{◌<◌, ◌∙◌, sym, ap, arith, length}
use Rattle.polars_arrays_flat.specs.Row.{Int}
use Rattle.polars_arrays_flat.specs.StoredRows.{number_slots}
use Rattle.polars_compute_slots.specs.Slots.{slot_of}
use Rattle.polars_compute_slots.proofs.Marked.{Marks-end, Marks-more, Marks-none, slot-below}
use Rattle.polars_compute_slots.proofs.RowPlaces.{has_slot, length-slots, row-slots}
use Rattle.polars_compute_slots.proofs.marking.mark_all.Goals as goal

pub loop-number-init : goal.loop-number-init
loop-number-init g c = Marks-none (g.T.Number.value c.args.span.now.least) c.args.span.now.count (g.S.Slots.set_slots c.args.slots.now)

pub slot-requires-after_bounds : goal.slot-requires-after_bounds
slot-requires-after_bounds g c κs within =
    let value = g.T.Number.value in
    let rows = number_slots value c.args.numbers.now in
    has_slot (value c.args.span.now.least) c.args.span.now.count rows c.loop-number.number-index (Int (value c.number-item.result)) c.requires.fit
    (omega (arith, length-slots value c.args.numbers.now, c.loop-number-test.true))
    (row-slots value c.args.numbers.now c.loop-number.number-index c.number-item.result c.loop-number-test.true c.number-item.is)

pub set-requires : goal.set-requires
set-requires g c =
    let value = g.T.Number.value in
    let rows = number_slots value c.args.numbers.now in
    let fit =
    has_slot (value c.args.span.now.least) c.args.span.now.count rows c.loop-number.number-index (Int (value c.number-item.result)) c.requires.fit
    (omega (arith, length-slots value c.args.numbers.now, c.loop-number-test.true))
    (row-slots value c.args.numbers.now c.loop-number.number-index c.number-item.result c.loop-number-test.true c.number-item.is) in
    omega (arith, slot-below (value c.args.span.now.least) c.args.span.now.count (Int (value c.number-item.result)) fit, c.slot.ensures, c.requires.size, c.loop-number.invariant.size)

pub loop-number-preserved : goal.loop-number-preserved
loop-number-preserved g c =
    let value = g.T.Number.value in
    let least = value c.args.span.now.least in
    let rows = number_slots value c.args.numbers.now in
    let below : c.loop-number.number-index < length rows = omega (arith, length-slots value c.args.numbers.now, c.loop-number-test.true) in
    let is = row-slots value c.args.numbers.now c.loop-number.number-index c.number-item.result c.loop-number-test.true c.number-item.is in
    Marks-more least c.args.span.now.count rows (g.S.Slots.set_slots c.args.slots.now) (g.S.Slots.set_slots c.loop-number.slots) (g.S.Slots.set_slots c.set.new.self) c.loop-number.number-index c.slot.result
    c.requires.size c.loop-number.invariant below (c.requires.fit.each c.loop-number.number-index below)
    (c.slot.ensures ∙ ap (slot_of least c.args.span.now.count) (sym is)) c.set.ensures

pub returns : goal.returns
returns g c =
    let value = g.T.Number.value in
    Marks-end (value c.args.span.now.least) c.args.span.now.count (number_slots value c.args.numbers.now) (g.S.Slots.set_slots c.args.slots.now) (g.S.Slots.set_slots c.loop-number.slots) c.loop-number.number-index
    (omega (arith, length-slots value c.args.numbers.now, c.loop-number-test.false)) c.loop-number.invariant
