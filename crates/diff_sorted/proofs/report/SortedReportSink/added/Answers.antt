use Rattle.std.proofs.Common.{ap, arith, length, map, refl}
use Rattle.std.proofs.lemmas.List.{length_push}
use Rattle.diff_merge.specs.Rows.{seen_of}
use Rattle.diff_report.specs.Sides.{naming_of}
use Rattle.diff_report.specs.declared.lines.Alone.TheVariants.{Removed, Added}
use Rattle.diff_run.specs.Lines.{row_alone}
use Rattle.diff_sorted.proofs.ToldLemmas.{begins_same, fewer, lines_after, lines_same, listed_added, pairs_added, row_next}
use Rattle.diff_sorted.proofs.report.SortedReportSink.added.Goals as goal

pub returns-clause-told : goal.returns-clause-told
returns-clause-told c = λ left_rows right_rows before after next held new.
    let b = seen_of c.args.row.now in
    let f = c.args.self.now.frame in
    let grown = ap length new.left_rows in
    let was = held.same in
    let more = length_push right_rows b in
    let few = c.in_ok-test_row.ensures.few in
    record {
      changed = held.changed;
      pairs = pairs_added left_rows right_rows b before after new.left_rows new.right_rows held.pairs;
      listed = listed_added left_rows right_rows b before after held.changed new.left_rows new.right_rows held.pairs held.listed;
      same = omega (arith, grown, was);
      left_few = held.left_few;
      right_few = omega (arith, more, few, next);
      told = λ s whole frame left right begins.
          let old = held.told s whole frame left (fewer s.right right_rows b right) (begins_same before after whole new.left_rows new.right_rows begins) in
          let row = row_next s.right right_rows c.args.row.now (length right_rows) next right refl in
          record {
            changed_lines = old.changed_lines;
            removed_lines = lines_same (row_alone f.format Removed (naming_of s) s.left) before.removed.items after.removed.items c.args.self.now.limit _ new.removed old.removed_lines;
            added_lines = lines_after (row_alone f.format Added (naming_of s) s.right) before.added.items after.added.items (length right_rows) c.args.self.now.limit _ new.added
                (c.in_ok-tell_added.ensures s (length right_rows) (map (row_alone f.format Added (naming_of s) s.right) before.added.items) frame row old.added_lines);
            counts = old.counts;
          };
    }
