use Rattle.std.proofs.Common.{arith}
use Rattle.diff_report.proofs.LineLemmas.{lines_written}
use Rattle.diff_report.specs.Sides.{naming_of}
use Rattle.diff_run.specs.Lines.{pair_at, row_alone}
use Rattle.diff_report.specs.declared.lines.Alone.TheVariants.{Removed, Added}
use Rattle.diff_run.proofs.lines.push_lines.Goals as goal

pub returns : goal.returns
returns c =
    let s = c.args.sides.now in
    let d = c.args.comparison.now in
    let format = c.args.format in
    lines_written (pair_at format s d.matching) (row_alone format Removed (naming_of s) s.left) (row_alone format Added (naming_of s) s.right) c.args.out.now.items _ _ _ c.args.limit _ _ d.changed.items d.matching.removed.items _ d.matching.added.items _
    c.in_ok-push_pairs.ensures c.in_ok-push_rows.ensures c.in_ok-push_rows-2.ensures c.deref.ensures.value c.deref-2.ensures.value (omega arith) (omega arith)
