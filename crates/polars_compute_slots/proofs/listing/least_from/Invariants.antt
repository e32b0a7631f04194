use Rattle.std.specs.Prelude.{◌<ℤ◌, All}
use Rattle.polars_compute_slots.specs.Slots.{slot_state}
use Rattle.polars_compute_slots.specs.State.{set_of}
use Rattle.polars_compute_slots.proofs.listing.least_from.Given as goal

abbrev pub invariant-loop-i : goal.invariant-loop-i
invariant-loop-i g l = All (λ v. v <ℤ l.bound) (set_of (slot_state (g.T.Number.value l.span.least) l.i (g.S.Slots.set_slots l.slots)))
