use Rattle.std.proofs.Common.{◌≡◌, ◌≤◌, ◌+◌}
use Rattle.polars_arrays_nested.specs.AnyRows.{row}
use Rattle.arrow_equality.specs.Nulls.{null_bits}
use Rattle.arrow_equality.proofs.nulls.nulls_of.Given as goal

abbrev pub invariant-loop-i : goal.invariant-loop-i
invariant-loop-i l = (l.bits.bits ≡ null_bits (row l.array) l.i) × (l.n ≤ l.i + l.bits.room)
