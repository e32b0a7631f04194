use Rattle.std.proofs.Common.{length}
use Rattle.diff_sorted.proofs.EndLemmas.{none_of}
use Rattle.diff_sorted.proofs.report.SortedReport.is_same.Goals as goal

pub returns : goal.returns
returns c = λ left_rows right_rows s d h.
    rw (c.differences.ensures d (c.totals.ensures left_rows right_rows s d h)) (none_of (length d.changed.items) (length d.matching.removed.items) (length d.matching.added.items))
