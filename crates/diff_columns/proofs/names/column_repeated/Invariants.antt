use Rattle.std.proofs.Common.{◌<◌, ℕ}
use Rattle.diff_columns.specs.Names.{IsRepeated}
use Rattle.diff_columns.proofs.names.column_repeated.Given as goal

abbrev pub invariant-loop-column : goal.invariant-loop-column
invariant-loop-column g l = (c : ℕ) → c < l.column → ¬ (IsRepeated (g.N.ByteRows.strings l.names) c)
