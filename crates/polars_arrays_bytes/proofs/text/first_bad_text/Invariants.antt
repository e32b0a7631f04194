use Rattle.std.proofs.Common.{ℕ, ◌<◌, [], get_or}
use Rattle.std.specs.Str.{IsUtf8}
use Rattle.polars_arrays_bytes.specs.OffsetStrings.{offset_strings}
use Rattle.polars_arrays_bytes.proofs.text.first_bad_text.Given as goal

abbrev pub invariant-loop-row : goal.invariant-loop-row
invariant-loop-row g l =
    (k : ℕ) → k < l.row → IsUtf8 (get_or (offset_strings g.O.Number.value l.binary) k [])
