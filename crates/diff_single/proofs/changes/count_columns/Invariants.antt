use Rattle.std.proofs.Common.{◌≡◌, ◌<◌, ◌≤◌, ◌+◌, ℕ, cond, length, get_or}
use Rattle.diff_report.specs.Pairs.{differ_at}
use Rattle.diff_single.proofs.changes.count_columns.Given as goal

abbrev pub invariant-loop-column : goal.invariant-loop-column
invariant-loop-column g l = record {
  as_many : length l.counts.items ≡ length l.fn.counts.items;
  counted : (k : ℕ) → k < l.column
      → get_or l.counts.items k 0 ≡ get_or l.fn.counts.items k 0 + cond (differ_at (g.L.StringList.strings l.left) (g.R.StringList.strings l.right) k) 1 0;
  rest : (k : ℕ) → l.column ≤ k → get_or l.counts.items k 0 ≡ get_or l.fn.counts.items k 0;
}
