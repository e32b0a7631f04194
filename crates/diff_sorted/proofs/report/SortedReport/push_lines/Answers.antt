use Rattle.std.proofs.Common.{arith, refl}
use Rattle.diff_report.proofs.LineLemmas.{lines_written}
use Rattle.diff_report.specs.Sides.{naming_of}
use Rattle.diff_report.specs.declared.lines.Alone.TheVariants.{Removed, Added}
use Rattle.diff_run.specs.Lines.{pair_at, row_alone}
use Rattle.diff_sorted.proofs.EndLemmas.{count_is, first_written, tells_all}
use Rattle.diff_sorted.proofs.report.SortedReport.push_lines.Goals as goal

pub returns : goal.returns
returns c = λ left_rows right_rows s d h.
    let r = c.args.self.now in
    let all = tells_all r left_rows right_rows s d h in
    let f = pair_at r.frame.format s d.matching in
    let g = row_alone r.frame.format Removed (naming_of s) s.left in
    let k = row_alone r.frame.format Added (naming_of s) s.right in
    let changed = count_is f d.changed.items r.limit r.changed all.changed_lines in
    let removed = count_is g d.matching.removed.items r.limit r.removed all.removed_lines in
    lines_written f g k c.args.out.now.items _ _ _ r.limit c.saturating_sub-room.result c.saturating_sub-left.result d.changed.items d.matching.removed.items _ d.matching.added.items _
    (first_written f d.changed.items r.limit _ _ _ (c.first-changed.ensures r.limit _ (omega arith) all.changed_lines) c.in_ok-extend_from_slice.ensures.items)
    (first_written g d.matching.removed.items c.saturating_sub-room.result _ _ _ (c.first-removed.ensures r.limit _ (omega arith) all.removed_lines) c.in_ok-extend_from_slice-2.ensures.items)
    (first_written k d.matching.added.items c.saturating_sub-left.result _ _ _ (c.first-added.ensures r.limit _ (omega arith) all.added_lines) c.in_ok-extend_from_slice-3.ensures.items)
    refl refl (omega (arith, changed)) (omega (arith, removed))
