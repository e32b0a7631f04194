use Rattle.std.proofs.Common.{ℕ, ◌<◌, ◌+◌, get_or}
use Rattle.std.specs.Prelude.{int_le, IsTrue}
use Rattle.polars_arrays_bytes.proofs.offsets.are_rising.Given as goal

abbrev pub invariant-loop-row : goal.invariant-loop-row
invariant-loop-row g l =
    IsTrue l.rising → (i : ℕ) → i < l.row → (d : _) → IsTrue (int_le (g.O.Number.value (get_or l.offsets i d)) (g.O.Number.value (get_or l.offsets (i + 1) d)))
