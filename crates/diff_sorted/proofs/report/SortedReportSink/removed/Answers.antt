use Rattle.std.proofs.Common.{ap, arith, length, map, refl}
use Rattle.std.proofs.lemmas.List.{length_push}
use Rattle.diff_merge.specs.Rows.{seen_of}
use Rattle.diff_report.specs.Sides.{naming_of}
use Rattle.diff_report.specs.declared.lines.Alone.TheVariants.{Removed, Added}
use Rattle.diff_run.specs.Lines.{row_alone}
use Rattle.diff_sorted.proofs.ToldLemmas.{begins_same, fewer, lines_after, lines_same, listed_removed, pairs_removed, row_next}
use Rattle.diff_sorted.proofs.report.SortedReportSink.removed.Goals as goal

pub returns-clause-told : goal.returns-clause-told
returns-clause-told c = λ left_rows right_rows before after next held gone.
    let a = seen_of c.args.row.now in
    let f = c.args.self.now.frame in
    let grown = ap length gone.left_rows in
    let was = held.same in
    let more = length_push left_rows a in
    let few = c.in_ok-test_row.ensures.few in
    record {
      changed = held.changed;
      pairs = pairs_removed left_rows right_rows a before after gone.left_rows gone.right_rows held.pairs;
      listed = listed_removed left_rows right_rows a before after held.changed gone.left_rows gone.right_rows held.pairs held.listed;
      same = omega (arith, grown, was);
      left_few = omega (arith, more, few, next);
      right_few = held.right_few;
      told = λ s whole frame left right begins.
          let old = held.told s whole frame (fewer s.left left_rows a left) right (begins_same before after whole gone.left_rows gone.right_rows begins) in
          let row = row_next s.left left_rows c.args.row.now (length left_rows) next left refl in
          record {
            changed_lines = old.changed_lines;
            removed_lines = lines_after (row_alone f.format Removed (naming_of s) s.left) before.removed.items after.removed.items (length left_rows) c.args.self.now.limit _ gone.removed
                (c.in_ok-tell_removed.ensures s (length left_rows) (map (row_alone f.format Removed (naming_of s) s.left) before.removed.items) frame row old.removed_lines);
            added_lines = lines_same (row_alone f.format Added (naming_of s) s.right) before.added.items after.added.items c.args.self.now.limit _ gone.added old.added_lines;
            counts = old.counts;
          };
    }
