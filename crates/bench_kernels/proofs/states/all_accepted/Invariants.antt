use Rattle.std.proofs.Common.{◌<◌, ℕ, slice_index_or}
use Rattle.std.specs.Prelude.{IsTrue}
use Rattle.polars_arrays_flat.specs.ArrayRows.{number_rows}
use Rattle.polars_compute_slots.specs.State.{are_within, range_of}
use Rattle.bench_kernels.proofs.states.all_accepted.Given as goal

abbrev pub invariant-loop-i : goal.invariant-loop-i
invariant-loop-i g l = (k : ℕ) (d : _) → k < l.i → IsTrue (are_within (range_of l.state) (number_rows g.T.Number.value (slice_index_or l.arrays k d)))
