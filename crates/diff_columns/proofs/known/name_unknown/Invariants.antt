use Rattle.std.proofs.Common.{◌<◌, ℕ}
use Rattle.diff_columns.specs.Names.{IsKnown, name_at, names_of}
use Rattle.diff_columns.proofs.known.name_unknown.Given as goal

abbrev pub invariant-loop-k : goal.invariant-loop-k
invariant-loop-k g l = (k : ℕ) → k < l.k → IsKnown (g.L.ByteRows.strings l.left) (g.R.ByteRows.strings l.right) (name_at (names_of l.names) k)
