use Rattle.std.proofs.Common.{◌≡◌, ◌<◌, ℕ, length, get_or}
use Rattle.schema_report.specs.Aligned.{widest}
use Rattle.schema_report.proofs.aligned.widths_of.Given as goal

abbrev pub invariant-loop-column : goal.invariant-loop-column
invariant-loop-column l = (length l.widths.items ≡ l.column) × ((c : ℕ) → c < l.column → get_or l.widths.items c 0 ≡ widest c l.table.rows (length l.table.rows))
