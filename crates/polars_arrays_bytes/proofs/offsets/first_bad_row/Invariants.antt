use Rattle.std.proofs.Common.{ℕ, ◌<◌}
use Rattle.polars_arrays_bytes.specs.OffsetStrings.{places, IsGoodRow}
use Rattle.polars_arrays_bytes.proofs.offsets.first_bad_row.Given as goal

abbrev pub invariant-loop-row : goal.invariant-loop-row
invariant-loop-row g l = (k : ℕ) → k < l.row → IsGoodRow l.n (places g.O.Number.value l.offsets) k
