use Rattle.std.proofs.Common.{◌≡◌, map, take}
use Rattle.polars_arrays_bytes.specs.OffsetStrings.{offset_strings}
use Rattle.schema_columns.specs.Kinds.{whole_of}
use Rattle.schema_columns.proofs.wholes.wholes_of.Given as goal

abbrev pub invariant-loop-i : goal.invariant-loop-i
invariant-loop-i l = l.wholes.items ≡ map whole_of (take l.i (offset_strings (λ x. x) l.cells))
