use Rattle.std.proofs.Common.{ℕ, ◌≡◌, ◌<◌}
use Rattle.std.specs.Prelude.{IsTrue, Some}
use Rattle.polars_arrays_bytes.specs.OffsetStrings.{place_at}
use Rattle.polars_arrays_bytes.specs.Texts.{IsBegun}
use Rattle.arrow_parts.specs.Lent.{places_from}
use Rattle.arrow_equality.proofs.part_strings.begin_characters.Given as goal

abbrev pub invariant-loop-row : goal.invariant-loop-row
invariant-loop-row g l =
    IsTrue l.begun → (i : ℕ) → i < l.row → (at : ℕ) → place_at (places_from l.base g.O.Number.value l.offsets) i ≡ Some at → IsBegun l.bytes l.end at
