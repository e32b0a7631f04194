use Rattle.std.proofs.Common.{◌∙◌, ◌&&◌, arith, ap, sym, subst, refl, false, not}
use Rattle.std.proofs.lemmas.Option.{get_or_from_slice_get}
use Rattle.polars_compute_slots.proofs.Casts.{whole-is}
use Rattle.polars_compute_slots.specs.Slots.{IsCounted, slot_state}
use Rattle.polars_compute_slots.specs.State.{State}
use Rattle.polars_compute_slots.proofs.ReadValues.{added-nulls, added-seen, added-values, one-most, or-false, read-whole}
use Rattle.polars_compute_slots.proofs.reading.read_counts.Goals as goal

pub loop-i-preserved : goal.loop-i-preserved
loop-i-preserved g c =
    let slots = g.S.Slots.set_slots c.args.slots.now in
    let least = g.T.Number.value c.args.span.now.least in
    let null = g.N.NullValues.is_null c.args.nulls.now in
    let is = c.stands_for_null-is_null.ensures ∙ ap null (whole-is c.whole.result _ c.whole.ensures.narrow (c.whole.ensures.number ∙ c.number.ensures)) in
    let set = sym (get_or_from_slice_get slots c.loop-i.i c.is_set-is_seen.result false c.is_set-is_seen.ensures) in
    record {
      values = added-values least slots null _ _ c.loop-i.i _ is c.add.ensures.values c.loop-i.invariant.values;
      seen = added-seen least slots null _ _ c.loop-i.i _ _ is set c.add.ensures.seen c.loop-i.invariant.seen;
      nulls = added-nulls least slots null _ _ _ c.loop-i.i _ _ is set c.add.ensures.has_null c.loop-i.invariant.nulls;
      few_values = omega (arith, c.add.ensures.values, c.loop-i.invariant.few_values, one-most (not c.stands_for_null-is_null.result));
      few_seen = omega (arith, c.add.ensures.seen, c.loop-i.invariant.few_seen, one-most (c.is_set-is_seen.result && not c.stands_for_null-is_null.result));
    }

pub returns-then-not-may_be_null-clause-counted : goal.returns-then-not-may_be_null-clause-counted
returns-then-not-may_be_null-clause-counted g c =
    let least = g.T.Number.value c.args.span.now.least in
    let state = slot_state least c.args.span.now.count (g.S.Slots.set_slots c.args.slots.now) in
    let whole = read-whole (g.N.NullValues.is_null c.args.nulls.now) (c.may_be_null.ensures c.if-not-may_be_null.true) state in
    subst (λ (s : State). IsCounted s c.whole_counts.result) (sym whole) (c.whole_counts.ensures.counted least)

pub loop-i-init : goal.loop-i-init
loop-i-init g c =
    let slots = g.S.Slots.set_slots c.args.slots.now in
    record {
      values = refl;
      seen = refl;
      nulls = sym (get_or_from_slice_get slots c.args.span.now.count c.is_set.result false c.is_set.ensures) ∙ sym (or-false _);
      few_values = omega arith;
      few_seen = omega arith;
    }
