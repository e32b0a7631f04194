use Rattle.std.proofs.Common.{◌∙◌, ℕ, ap}
use Rattle.polars_compute_slots.specs.Slots.{slot_state}
use Rattle.polars_compute_slots.specs.State.{new_state, numbers_from}
use Rattle.polars_compute_slots.proofs.Casts.{few-slots}
use Rattle.polars_compute_slots.proofs.Ranges.{new-slots}
use Rattle.polars_compute_unique.proofs.primitive.PrimitiveRangedUniqueState.new.Goals as goal

pub returns-in_err-seen-clause-few : goal.returns-in_err-seen-clause-few
returns-in_err-seen-clause-few g c =
    λ few. let never = c.in_err-seen.ensures.few (few-slots (g.T.Number.value c.args.max_value) (g.T.Number.value c.args.min_value) c.between-span.result.count c.requires.0 c.between-span.ensures.count few) in cc

pub returns-clause-state : goal.returns-clause-state
returns-clause-state g c =
    let value = g.T.Number.value in
    let count = c.between-span.result.count in
    ap (slot_state (value c.between-span.result.least) count) c.in_ok-seen.ensures.slots
    ∙ new-slots (value c.between-span.result.least) count
    ∙ ap (λ (l : g.row.T.Denot). new_state (numbers_from (value l) count)) c.between-span.ensures.least
    ∙ ap (λ (n : ℕ). new_state (numbers_from (value c.args.min_value) n)) c.between-span.ensures.count
