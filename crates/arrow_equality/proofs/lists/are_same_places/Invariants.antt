use Rattle.std.proofs.Common.{ℕ, ◌≡◌, ◌<◌}
use Rattle.std.specs.Prelude.{IsTrue}
use Rattle.polars_arrays_bytes.specs.OffsetStrings.{place_at}
use Rattle.arrow_parts.specs.Lent.{places_from}
use Rattle.arrow_equality.proofs.lists.are_same_places.Given as goal

abbrev pub invariant-loop-i : goal.invariant-loop-i
invariant-loop-i g l =
    IsTrue l.same → (k : ℕ) → k < l.i → place_at (places_from l.right_base g.O.Number.value l.right) k ≡ place_at (places_from l.left_base g.O.Number.value l.left) k
