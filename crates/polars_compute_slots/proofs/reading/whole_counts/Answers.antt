use Rattle.std.proofs.Common.{◌∙◌, arith, sym, false}
use Rattle.std.proofs.lemmas.Option.{get_or_from_slice_get}
use Rattle.polars_compute_slots.proofs.ReadValues.{length-slot_state}
use Rattle.polars_compute_slots.proofs.Sets.{length-members}
use Rattle.polars_compute_slots.proofs.reading.whole_counts.Goals as goal

pub returns-clause-counted : goal.returns-clause-counted
returns-clause-counted g c = λ least.
    let slots = g.S.Slots.set_slots c.args.slots.now in
    record {
      values = sym (length-slot_state least c.args.count slots);
      seen = c.count_values.ensures ∙ sym (length-members least slots c.args.count (omega (arith, c.requires)));
      has_null = sym (get_or_from_slice_get slots c.args.count c.is_set.result false c.is_set.ensures);
    }
