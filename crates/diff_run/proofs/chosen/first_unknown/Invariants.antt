use Rattle.std.proofs.Common.{◌<◌, ℕ}
use Rattle.polars_arrays_bytes.specs.OffsetStrings.{offset_strings}
use Rattle.diff_columns.specs.Names.{IsKnown, name_at}
use Rattle.diff_run.specs.Chosen.{columns_of}
use Rattle.diff_run.proofs.chosen.first_unknown.Given as goal

abbrev pub invariant-loop-k : goal.invariant-loop-k
invariant-loop-k l = (k : ℕ) → k < l.k → IsKnown (offset_strings (λ x. x) l.left) (offset_strings (λ x. x) l.right) (name_at (columns_of l.tolerances) k)
