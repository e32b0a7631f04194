use Rattle.std.proofs.Common.{ap, arith, length}
use Rattle.diff_report.specs.Sides.{naming_of}
use Rattle.diff_report.specs.declared.lines.Alone.TheVariants.{Removed, Added}
use Rattle.diff_run.specs.Lines.{pair_at, row_alone}
use Rattle.diff_sorted.proofs.EndLemmas.{count_is, tells_all}
use Rattle.diff_sorted.proofs.report.SortedReport.totals.Goals as goal

pub returns : goal.returns
returns c = λ left_rows right_rows s d h.
    let r = c.args.self.now in
    let all = tells_all r left_rows right_rows s d h in
    let same = h.told.same in
    let many = ap length h.changed in
    record {
      changed = count_is (pair_at r.frame.format s d.matching) d.changed.items r.limit r.changed all.changed_lines;
      removed = count_is (row_alone r.frame.format Removed (naming_of s) s.left) d.matching.removed.items r.limit r.removed all.removed_lines;
      added = count_is (row_alone r.frame.format Added (naming_of s) s.right) d.matching.added.items r.limit r.added all.added_lines;
      same = omega (arith, same, many);
    }
