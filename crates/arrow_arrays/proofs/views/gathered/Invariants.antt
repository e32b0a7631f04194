use Rattle.std.specs.Prelude.{◌≡◌, ◌≤◌, ◌+◌, vec_capacity, length}
use Rattle.polars_arrays_bytes.specs.OffsetStrings.{places}
use Rattle.arrow_arrays.specs.Views.{AllLead, AreGathered}
use Rattle.arrow_arrays.proofs.views.gathered.Given as goal

abbrev pub invariant-loop-i : goal.invariant-loop-i
invariant-loop-i l = AreGathered l.part l.i (places (λ x. x) l.ends.items) l.bytes.items × (length l.ends.items ≡ l.i + 1) × (l.part.rows + 1 ≤ vec_capacity l.ends) × AllLead l.part l.i
