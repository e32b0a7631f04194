use Rattle.std.specs.Prelude.{◌≡◌, ◌≤◌, take, vec_capacity, length}
use Rattle.polars_arrays_bytes.specs.OffsetStrings.{places}
use Rattle.arrow_parts.specs.Lent.{places_from}
use Rattle.arrow_arrays.proofs.ends.ends_from.Given as goal

abbrev pub invariant-loop-i : goal.invariant-loop-i
invariant-loop-i g l = (places (λ x. x) l.ends.items ≡ places_from l.fn.base g.O.Number.value (take l.i l.offsets)) × (length l.ends.items ≡ l.i) × (length l.offsets ≤ vec_capacity l.ends)
