use Rattle.std.proofs.Common.{arith}
use Rattle.polars_arrays_flat.specs.Row.{Int}
use Rattle.polars_arrays_flat.specs.StoredRows.{number_slots}
use Rattle.polars_compute_slots.proofs.RowPlaces.{has_slot, length-slots, row-slots}
use Rattle.arrow_unique.proofs.Marked.{marked-end, marked-more, marked-none}
use Rattle.arrow_unique.proofs.marking.mark_all.Goals as goal

pub loop-i-init : goal.loop-i-init
loop-i-init g c = marked-none (g.T.Number.value c.args.span.now.least) c.args.span.now.count c.args.words.now

pub mark_number-requires-clause-fit : goal.mark_number-requires-clause-fit
mark_number-requires-clause-fit g c κs within =
    let value = g.T.Number.value in
    let long = length-slots value c.args.numbers.now in
    has_slot (value c.args.span.now.least) c.args.span.now.count (number_slots value c.args.numbers.now) c.loop-i.i (Int (value c.index-numbers-i.result)) c.requires.fit
    (omega (arith, long, c.loop-i-test.true))
    (row-slots value c.args.numbers.now c.loop-i.i c.index-numbers-i.result c.loop-i-test.true c.index-numbers-i.is)

pub loop-i-preserved : goal.loop-i-preserved
loop-i-preserved g c =
    let value = g.T.Number.value in
    let long = length-slots value c.args.numbers.now in
    marked-more (value c.args.span.now.least) c.args.span.now.count (number_slots value c.args.numbers.now) (Int (value c.index-numbers-i.result)) c.args.words.now c.loop-i.words c.mark_number.new.words c.loop-i.i
    c.loop-i.invariant c.mark_number.ensures (omega (arith, long, c.loop-i-test.true))
    (row-slots value c.args.numbers.now c.loop-i.i c.index-numbers-i.result c.loop-i-test.true c.index-numbers-i.is)

pub returns : goal.returns
returns g c =
    let value = g.T.Number.value in
    let long = length-slots value c.args.numbers.now in
    marked-end (value c.args.span.now.least) c.args.span.now.count (number_slots value c.args.numbers.now) c.args.words.now c.loop-i.words c.loop-i.i (omega (arith, long, c.loop-i-test.false)) c.loop-i.invariant
