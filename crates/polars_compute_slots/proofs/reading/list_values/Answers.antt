use Rattle.std.proofs.Common.{◌∙◌, ◌&&◌, arith, ap, ap₂, sym, false, not}
use Rattle.std.proofs.lemmas.Option.{get_or_from_slice_get}
use Rattle.polars_arrays_flat.specs.StoredRows.{number_slots}
use Rattle.polars_compute_slots.proofs.Casts.{whole-is}
use Rattle.polars_compute_slots.proofs.ReadValues.{length-stored, members-mono, stored-more}
use Rattle.polars_compute_slots.proofs.reading.list_values.Goals as goal

pub push_if-requires-after_bounds : goal.push_if-requires-after_bounds
push_if-requires-after_bounds g c κs within =
    let slots = g.S.Slots.set_slots c.args.slots.now in
    let least = g.T.Number.value c.args.span.now.least in
    let null = g.N.NullValues.is_null c.args.nulls.now in
    let size = length-stored least slots null g.T.Number.value c.loop-i.numbers.items c.loop-i.i c.loop-i.invariant.items in
    omega (arith, size, c.loop-i.invariant.room, c.requires.room, members-mono least slots null c.loop-i.i c.args.span.now.count (omega (arith, c.loop-i-test.true)))

pub loop-i-preserved : goal.loop-i-preserved
loop-i-preserved g c =
    let slots = g.S.Slots.set_slots c.args.slots.now in
    let least = g.T.Number.value c.args.span.now.least in
    let null = g.N.NullValues.is_null c.args.nulls.now in
    let is = c.stands_for_null-is_null.ensures ∙ ap null (whole-is c.whole.result _ c.whole.ensures.narrow (c.whole.ensures.number ∙ c.number-number.ensures)) in
    let set = sym (get_or_from_slice_get slots c.loop-i.i c.is_set-is_seen.result false c.is_set-is_seen.ensures) in
    record {
      items =
          ap (number_slots g.T.Number.value) c.push_if.ensures.items
          ∙ stored-more least slots null g.T.Number.value c.loop-i.numbers.items c.loop-i.i c.number-number.result (c.is_set-is_seen.result && not c.stands_for_null-is_null.result) (ap₂ (λ s b. s && not b) set is) c.number-number.ensures c.loop-i.invariant.items;
      room = c.push_if.ensures.room ∙ c.loop-i.invariant.room;
    }

pub returns-clause-room : goal.returns-clause-room
returns-clause-room g c =
    let slots = g.S.Slots.set_slots c.args.slots.now in
    let least = g.T.Number.value c.args.span.now.least in
    let null = g.N.NullValues.is_null c.args.nulls.now in
    let size = length-stored least slots null g.T.Number.value c.loop-i.numbers.items c.loop-i.i c.loop-i.invariant.items in
    omega (arith, size, c.loop-i.invariant.room, c.requires.room, members-mono least slots null c.loop-i.i c.args.span.now.count (omega (arith, c.loop-i.auto.i-end)))
