use Rattle.std.proofs.Common.{◌≡◌, ◌∙◌, ◌<◌, ◌+◌, ◌-◌, ◌*◌, ◌/◌, List, sym, ap, subst, take, length, arith, false}
use Rattle.polars_arrays_flat.specs.Row.{Row}
use Rattle.polars_arrays_flat.specs.StoredRows.{number_slots}
use Rattle.polars_compute_slots.specs.Slots.{HaveSlots, Marks, slot_state}
use Rattle.polars_compute_slots.specs.State.{appended, is_full}
use Rattle.polars_compute_slots.proofs.Fullness.{Marks-full, drop-number_rows, is-full, not-full, number-rows, read-full, still-needed}
use Rattle.polars_compute_slots.proofs.Marked.{Marks-block, Marks-none}
use Rattle.polars_compute_slots.proofs.RowPlaces.{block_slots, length-slots, window_slots}
use Rattle.polars_compute_slots.proofs.marking.mark_until_full.Goals as goal

pub loop-at-init : goal.loop-at-init
loop-at-init g c = record {
  within = omega arith;
  blocks = λ h. omega arith;
  needed = omega arith;
  read = omega arith;
  marks = Marks-none (g.T.Number.value c.args.span.now.least) c.args.span.now.count (g.S.Slots.set_slots c.args.slots.now);
}

pub mark_all-requires-clause-fit : goal.mark_all-requires-clause-fit
mark_all-requires-clause-fit g c κs within =
    let value = g.T.Number.value in
    let rows = number_slots value c.args.numbers.now in
    let long = length-slots value c.args.numbers.now in
    let cut : c.loop-at.at + c.min-n.result - c.loop-at.at ≡ c.min-n.result = omega arith in
    subst (HaveSlots (value c.args.span.now.least) c.args.span.now.count) (sym (block_slots value c.args.numbers.now c.loop-at.at c.min-n.result _ cut))
    (window_slots (value c.args.span.now.least) c.args.span.now.count rows c.loop-at.at c.min-n.result c.requires.fit (omega (arith, long, c.min-n.ensures, c.loop-at-test.true)))

pub loop-at-preserved : goal.loop-at-preserved
loop-at-preserved g c =
    let value = g.T.Number.value in
    let least = value c.args.span.now.least in
    let rows = number_slots value c.args.numbers.now in
    let long = length-slots value c.args.numbers.now in
    let start = slot_state least c.args.span.now.count (g.S.Slots.set_slots c.args.slots.now) in
    let cut : c.loop-at.at + c.min-n.result - c.loop-at.at ≡ c.min-n.result = omega arith in
    let inside : c.loop-at.at < length rows = omega (arith, long, c.loop-at-test.true) in
    let aligned : 512 * (c.loop-at.at / 512) ≡ c.loop-at.at = c.loop-at.invariant.blocks c.loop-at-test.true in
    let not_yet : is_full (appended (take c.loop-at.at rows) start) ≡ false = sym (ap is_full c.loop-at.invariant.marks.state) ∙ not-full least (g.S.Slots.set_slots c.loop-at.slots) c.args.span.now.count c.count_values.result (c.loop-at.invariant.marks.size ∙ c.requires.size) c.count_values.ensures c.if-count_values-span.true in
    let block = subst (λ (rs : List Row). Marks least c.args.span.now.count rs (g.S.Slots.set_slots c.loop-at.slots) (g.S.Slots.set_slots c.mark_all.new.slots)) (block_slots value c.args.numbers.now c.loop-at.at c.min-n.result _ cut) c.mark_all.ensures in
    record {
      within = omega (arith, c.min-n.ensures, c.loop-at-test.true);
      blocks = λ h. omega (arith, c.min-n.ensures, aligned);
      needed = still-needed start rows c.loop-at.at c.min-n.result inside not_yet aligned (omega (arith, c.min-n.ensures));
      read = omega (arith, c.add.ensures, c.loop-at.invariant.read);
      marks = Marks-block least c.args.span.now.count rows (g.S.Slots.set_slots c.args.slots.now) (g.S.Slots.set_slots c.loop-at.slots) (g.S.Slots.set_slots c.mark_all.new.slots) c.loop-at.at c.min-n.result c.loop-at.invariant.marks block;
    }

pub returns-else-count_values-span-clause-marks : goal.returns-else-count_values-span-clause-marks
returns-else-count_values-span-clause-marks g c =
    let value = g.T.Number.value in
    let least = value c.args.span.now.least in
    let rows = number_slots value c.args.numbers.now in
    let full = is-full least (g.S.Slots.set_slots c.loop-at.slots) c.args.span.now.count c.count_values.result (c.loop-at.invariant.marks.size ∙ c.requires.size) c.count_values.ensures c.if-count_values-span.false in
    Marks-full least c.args.span.now.count rows (g.S.Slots.set_slots c.args.slots.now) (g.S.Slots.set_slots c.loop-at.slots) c.loop-at.at full (drop-number_rows value c.args.numbers.now c.loop-at.at) c.loop-at.invariant.marks

pub returns-else-count_values-span-clause-read : goal.returns-else-count_values-span-clause-read
returns-else-count_values-span-clause-read g c =
    let value = g.T.Number.value in
    let least = value c.args.span.now.least in
    let rows = number_slots value c.args.numbers.now in
    let long = length-slots value c.args.numbers.now in
    let start = slot_state least c.args.span.now.count (g.S.Slots.set_slots c.args.slots.now) in
    let full = is-full least (g.S.Slots.set_slots c.loop-at.slots) c.args.span.now.count c.count_values.result (c.loop-at.invariant.marks.size ∙ c.requires.size) c.count_values.ensures c.if-count_values-span.false in
    let read = read-full start rows c.loop-at.at (number-rows value c.args.numbers.now) (omega (arith, long, c.loop-at-test.true)) (sym (ap is_full c.loop-at.invariant.marks.state) ∙ full) (c.loop-at.invariant.blocks c.loop-at-test.true) c.loop-at.invariant.needed in
    omega (arith, c.loop-at.invariant.read, read)
