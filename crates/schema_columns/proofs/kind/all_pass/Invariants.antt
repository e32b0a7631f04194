use Rattle.std.proofs.Common.{◌<◌, ℕ, [], get_or}
use Rattle.polars_arrays_bytes.specs.OffsetStrings.{offset_strings}
use Rattle.schema_columns.proofs.kind.all_pass.Given as goal

abbrev pub invariant-loop-i : goal.invariant-loop-i
invariant-loop-i g l = (k : ℕ) → k < l.i → g.T.CellTest.Passes (get_or (offset_strings (λ x. x) l.cells) k [])
