use Rattle.std.proofs.Common.{◌∙◌, ℕ, List, length, sym, ap, subst}
use Rattle.polars_arrays_flat.specs.Row.{Row}
use Rattle.polars_arrays_flat.specs.StoredRows.{masked, number_slots}
use Rattle.polars_arrays_words.specs.Bits.{first_of, is_bit}
use Rattle.polars_compute_slots.proofs.RowPlaces.{length-slots}
use Rattle.polars_compute_slots.specs.Slots.{HaveSlots}
use Rattle.arrow_unique.proofs.Present.{masked-ones}
use Rattle.arrow_unique.specs.Memory.{AreMarked}
use Rattle.arrow_unique.proofs.marking.mark_word.Goals as goal

pub mark_all-requires-clause-fit : goal.mark_all-requires-clause-fit
mark_all-requires-clause-fit g c κs within =
    let value = g.T.Number.value in
    let k = length c.args.numbers.now in
    let slots = number_slots value c.args.numbers.now in
    subst (HaveSlots (value c.args.span.now.least) c.args.span.now.count)
    (ap (λ (w : ℕ). masked (first_of (is_bit w) k) slots) c.if-present-eq18446744073709551615.true ∙ masked-ones k slots c.requires.few (length-slots value c.args.numbers.now))
    c.requires.fit

pub returns-then-present-eq18446744073709551615 : goal.returns-then-present-eq18446744073709551615
returns-then-present-eq18446744073709551615 g c =
    let value = g.T.Number.value in
    let k = length c.args.numbers.now in
    let slots = number_slots value c.args.numbers.now in
    subst (λ (rs : List Row). AreMarked (value c.args.span.now.least) c.args.span.now.count rs c.args.words.now c.mark_all.new.words)
    (sym (ap (λ (w : ℕ). masked (first_of (is_bit w) k) slots) c.if-present-eq18446744073709551615.true ∙ masked-ones k slots c.requires.few (length-slots value c.args.numbers.now)))
    c.mark_all.ensures
