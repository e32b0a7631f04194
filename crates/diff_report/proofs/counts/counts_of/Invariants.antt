use Rattle.std.proofs.Common.{◌≡◌, take}
use Rattle.diff_report.specs.Counts.{column_counts}
use Rattle.diff_report.proofs.counts.counts_of.Given as goal

abbrev pub invariant-loop-n : goal.invariant-loop-n
invariant-loop-n l = l.counts.items ≡ column_counts l.sides l.comparison.matching (take l.n l.comparison.changed.items)
