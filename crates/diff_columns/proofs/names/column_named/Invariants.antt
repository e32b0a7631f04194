use Rattle.std.proofs.Common.{◌≡◌, ◌<◌, ℕ}
use Rattle.diff_columns.specs.Names.{name_at}
use Rattle.diff_columns.proofs.names.column_named.Given as goal

abbrev pub invariant-loop-c : goal.invariant-loop-c
invariant-loop-c g l = (c : ℕ) → c < l.c → ¬ (name_at (g.N.ByteRows.strings l.names) c ≡ l.name)
