use Rattle.std.proofs.Common.{◌<◌, ℕ, slice_index_or}
use Rattle.std.specs.Prelude.{IsTrue}
use Rattle.polars_compute_slots.specs.State.{are_within, range_of}
use Rattle.recorded_states.proofs.appending.all_accepted.Given as goal

abbrev pub invariant-loop-i : goal.invariant-loop-i
invariant-loop-i g l = (k : ℕ) (d : _) → k < l.i → IsTrue (g.S.RangedUniqueKernel.is_taken (slice_index_or l.arrays k d)) × IsTrue (are_within (range_of (g.S.RangedUniqueKernel.state l.state)) (g.S.RangedUniqueKernel.fed (slice_index_or l.arrays k d)))
