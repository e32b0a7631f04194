use Rattle.std.proofs.Common.{◌≡◌, ◌<◌, ℕ, [], get_or}
use Rattle.diff_single.proofs.changes.differ.Given as goal

abbrev pub invariant-loop-column : goal.invariant-loop-column
invariant-loop-column g l = (k : ℕ) → k < l.column → get_or (g.L.StringList.strings l.left) k [] ≡ get_or (g.R.StringList.strings l.right) k []
