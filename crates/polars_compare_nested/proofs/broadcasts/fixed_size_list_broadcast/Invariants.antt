use Rattle.std.proofs.Common.{◌-◌, ◌≤◌}
use Rattle.polars_arrays_nested.specs.StoredRows.{stored_fixed_list}
use Rattle.polars_compare_nested.specs.Broadcasts.{SameAsAll}
use Rattle.polars_compare_nested.proofs.broadcasts.fixed_size_list_broadcast.Given as goal

abbrev pub invariant-loop-i : goal.invariant-loop-i
invariant-loop-i l = SameAsAll (stored_fixed_list l.lists) l.rows l.i l.bits.bits × (l.n - l.i ≤ l.bits.room)
