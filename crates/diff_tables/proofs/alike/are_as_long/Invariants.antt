use Rattle.std.proofs.Common.{◌≡◌, ◌+◌, ◌<◌, ℕ, [], length, get_or}
use Rattle.diff_tables.proofs.alike.are_as_long.Given as goal

abbrev pub invariant-loop-c : goal.invariant-loop-c
invariant-loop-c g l = (k : ℕ) → k < l.c → length (get_or (g.L.ByteRows.strings l.left) (l.at + k) []) ≡ length (get_or (g.R.ByteRows.strings l.right) (l.from + k) [])
