use Rattle.std.proofs.Common.{◌≡◌, ◌<◌, ◌≤◌, ◌+◌, ℕ, cond, length, get_or}
use Rattle.diff_report.specs.Pairs.{is_apart}
use Rattle.diff_report.proofs.counts.count_pair.Given as goal

abbrev pub invariant-loop-column : goal.invariant-loop-column
invariant-loop-column l = record {
  as_many : length l.counts.items ≡ length l.fn.counts.items;
  counted : (k : ℕ) → k < l.column
      → get_or l.counts.items k 0 ≡ get_or l.fn.counts.items k 0 + cond (is_apart l.sides l.i l.j k) 1 0;
  rest : (k : ℕ) → l.column ≤ k → get_or l.counts.items k 0 ≡ get_or l.fn.counts.items k 0;
}
