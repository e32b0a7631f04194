use Rattle.std.proofs.Common.{◌<◌, ℕ}
use Rattle.std.specs.Prelude.{Contains}
use Rattle.diff_columns.specs.Names.{name_at, names_of}
use Rattle.diff_columns.proofs.names.key_missing.Given as goal

abbrev pub invariant-loop-k : goal.invariant-loop-k
invariant-loop-k g l = (k : ℕ) → k < l.k → Contains (g.N.ByteRows.strings l.names) (name_at (names_of l.keys) k)
