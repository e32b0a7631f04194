use Rattle.std.proofs.Common.{◌≡◌, ◌<◌, ℕ}
use Rattle.diff_columns.specs.Names.{name_at}
use Rattle.diff_columns.proofs.names.is_repeated.Given as goal

abbrev pub invariant-loop-d : goal.invariant-loop-d
invariant-loop-d g l = (d : ℕ) → d < l.d → ¬ (name_at (g.N.ByteRows.strings l.names) d ≡ name_at (g.N.ByteRows.strings l.names) l.fn.column)
