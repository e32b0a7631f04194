use Rattle.std.proofs.Common.{ℕ, ◌<◌}
use Rattle.polars_arrays_nested.specs.Faults.{FitsAt}
use Rattle.polars_arrays_nested.proofs.struct_array.first_misfit.Given as goal

abbrev pub invariant-loop-at : goal.invariant-loop-at
invariant-loop-at l = (k : ℕ) → k < l.at → FitsAt l.fields l.len l.values k
