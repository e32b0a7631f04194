use Rattle.std.proofs.Common.{◌∙◌, ◌+◌, List, sym, ap, subst, arith}
use Rattle.polars_arrays_flat.specs.Row.{Row}
use Rattle.polars_arrays_flat.specs.StoredRows.{masked, number_slots}
use Rattle.polars_compute_slots.specs.Slots.{HaveSlots, Marks, slot_state}
use Rattle.polars_compute_slots.specs.State.{rows_read}
use Rattle.polars_compute_slots.proofs.Fullness.{none-masked, read-all, some-masked}
use Rattle.polars_compute_slots.proofs.RowPlaces.{length-masked_slots, length-slots}
use Rattle.polars_compute_slots.proofs.marking.mark_under.Goals as goal

pub mark_until_full-requires-clause-fit : goal.mark_until_full-requires-clause-fit
mark_until_full-requires-clause-fit g c κs within =
    let value = g.T.Number.value in
    let same = none-masked c.args.validity.now (number_slots value c.args.numbers.now) (c.requires.bits ∙ sym (length-slots value c.args.numbers.now)) (sym c.unset_bits.ensures ∙ c.if-unset_bits-eq0.true) in
    subst (HaveSlots (value c.args.span.now.least) c.args.span.now.count) same c.requires.fit

pub returns-then-unset_bits-eq0-clause-marks : goal.returns-then-unset_bits-eq0-clause-marks
returns-then-unset_bits-eq0-clause-marks g c =
    let value = g.T.Number.value in
    let same = none-masked c.args.validity.now (number_slots value c.args.numbers.now) (c.requires.bits ∙ sym (length-slots value c.args.numbers.now)) (sym c.unset_bits.ensures ∙ c.if-unset_bits-eq0.true) in
    subst (λ (rs : List Row). Marks (value c.args.span.now.least) c.args.span.now.count rs (g.S.Slots.set_slots c.args.slots.now) (g.S.Slots.set_slots c.mark_until_full.new.slots)) (sym same) c.mark_until_full.ensures.marks

pub returns-then-unset_bits-eq0-clause-read : goal.returns-then-unset_bits-eq0-clause-read
returns-then-unset_bits-eq0-clause-read g c =
    let value = g.T.Number.value in
    let same = none-masked c.args.validity.now (number_slots value c.args.numbers.now) (c.requires.bits ∙ sym (length-slots value c.args.numbers.now)) (sym c.unset_bits.ensures ∙ c.if-unset_bits-eq0.true) in
    c.mark_until_full.ensures.read ∙ ap (λ (rs : List Row). c.args.steps.now + rows_read (slot_state (value c.args.span.now.least) c.args.span.now.count (g.S.Slots.set_slots c.args.slots.now)) rs) (sym same)

pub returns-clause-read : goal.returns-clause-read
returns-clause-read g c =
    let value = g.T.Number.value in
    let rows = masked c.args.validity.now (number_slots value c.args.numbers.now) in
    let some = some-masked value c.args.validity.now c.args.numbers.now c.requires.bits (omega (arith, c.unset_bits.ensures, c.if-unset_bits-eq0.false)) in
    let read = read-all (slot_state (value c.args.span.now.least) c.args.span.now.count (g.S.Slots.set_slots c.args.slots.now)) rows some in
    omega (arith, c.add.ensures, read, length-masked_slots value c.args.numbers.now c.args.validity.now c.requires.bits)
