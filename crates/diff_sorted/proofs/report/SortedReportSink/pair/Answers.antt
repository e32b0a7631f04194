use Rattle.std.proofs.Common.{◌∙◌, ◌++◌, ◌∷◌, [], ap, arith, length, map, refl}
use Rattle.std.proofs.lemmas.List.{length_push}
use Rattle.std.specs.Prelude.{slice_index}
use Rattle.diff_merge.specs.Rows.{cells_of, seen_of}
use Rattle.diff_report.specs.Sides.{naming_of}
use Rattle.diff_report.specs.declared.lines.Alone.TheVariants.{Removed, Added}
use Rattle.diff_run.specs.Lines.{pair_at, row_alone}
use Rattle.diff_sorted.proofs.ToldLemmas.{begins_pair, counts_after, counts_same, fewer, lines_after, lines_same, listed_changed, listed_same, pairs_pair, place_left, place_right, row_next}
use Rattle.diff_sorted.proofs.report.SortedReportSink.pair.Goals as goal

pub returns-then-not-is_changed-clause-told : goal.returns-then-not-is_changed-clause-told
returns-then-not-is_changed-clause-told c = λ left_rows right_rows before after left_next right_next held pair.
    let a = seen_of c.args.left.now in
    let b = seen_of c.args.right.now in
    let f = c.args.self.now.frame in
    let cells = c.count_changes-is_changed.ensures.same c.if-not-is_changed.true in
    let pushed = length_push before.left_rows.items (length left_rows) in
    let grown = ap length pair.left_rows in
    let was = held.same in
    let one = c.in_ok-self.ensures in
    let left_more = length_push left_rows a in
    let right_more = length_push right_rows b in
    let left_few = c.in_ok-test_row.ensures.few in
    let right_few = c.in_ok-test_row-2.ensures.few in
    record {
      changed = held.changed;
      pairs = pairs_pair left_rows right_rows a b before after pair held.pairs;
      listed = listed_same left_rows right_rows a b before after held.changed pair held.pairs held.listed cells;
      same = omega (arith, pushed, grown, was, one);
      left_few = omega (arith, left_more, left_few, left_next);
      right_few = omega (arith, right_more, right_few, right_next);
      told = λ s whole frame left right begins.
          let old = held.told s whole frame (fewer s.left left_rows a left) (fewer s.right right_rows b right) (begins_pair (length left_rows) (length right_rows) before after whole pair begins) in
          record {
            changed_lines = old.changed_lines;
            removed_lines = lines_same (row_alone f.format Removed (naming_of s) s.left) before.removed.items after.removed.items c.args.self.now.limit _ pair.removed old.removed_lines;
            added_lines = lines_same (row_alone f.format Added (naming_of s) s.right) before.added.items after.added.items c.args.self.now.limit _ pair.added old.added_lines;
            counts = counts_same (cells_of c.args.left.now) (cells_of c.args.right.now) c.args.self.now.counts.items _ cells c.count_changes-is_changed.ensures.counts ∙ old.counts;
          };
    }

pub returns-clause-told : goal.returns-clause-told
returns-clause-told c = λ left_rows right_rows before after left_next right_next held pair.
    let a = seen_of c.args.left.now in
    let b = seen_of c.args.right.now in
    let f = c.args.self.now.frame in
    let limit = c.args.self.now.limit in
    let place = length before.left_rows.items in
    let apart = c.count_changes-is_changed.ensures.apart c.if-not-is_changed.false in
    let pushed = length_push before.left_rows.items (length left_rows) in
    let grown = ap length pair.left_rows in
    let was = held.same in
    let listed_more = length_push held.changed (length before.left_rows.items) in
    let left_more = length_push left_rows a in
    let right_more = length_push right_rows b in
    let left_few = c.in_ok-test_row.ensures.few in
    let right_few = c.in_ok-test_row-2.ensures.few in
    record {
      changed = held.changed ++ length before.left_rows.items ∷ [];
      pairs = pairs_pair left_rows right_rows a b before after pair held.pairs;
      listed = listed_changed left_rows right_rows a b before after held.changed pair held.pairs held.listed apart;
      same = omega (arith, pushed, grown, was, listed_more);
      left_few = omega (arith, left_more, left_few, left_next);
      right_few = omega (arith, right_more, right_few, right_next);
      told = λ s whole frame left right begins.
          let old = held.told s whole frame (fewer s.left left_rows a left) (fewer s.right right_rows b right) (begins_pair (length left_rows) (length right_rows) before after whole pair begins) in
          let i = place_left (length left_rows) (length right_rows) before after whole pair begins in
          let j = place_right (length left_rows) (length right_rows) before after whole held.pairs.one_length pair begins in
          let first = row_next s.left left_rows c.args.left.now (slice_index whole.left_rows.items (length before.left_rows.items)) left_next left i in
          let second = row_next s.right right_rows c.args.right.now (slice_index whole.right_rows.items (length before.left_rows.items)) right_next right j in
          record {
            changed_lines = lines_after (pair_at f.format s whole) held.changed (held.changed ++ length before.left_rows.items ∷ []) (length before.left_rows.items) c.args.self.now.limit _ refl
                (c.in_ok-tell_changed.ensures s whole (length before.left_rows.items) (map (pair_at f.format s whole) held.changed) frame first second old.changed_lines);
            removed_lines = lines_same (row_alone f.format Removed (naming_of s) s.left) before.removed.items after.removed.items c.args.self.now.limit _ pair.removed old.removed_lines;
            added_lines = lines_same (row_alone f.format Added (naming_of s) s.right) before.added.items after.added.items c.args.self.now.limit _ pair.added old.added_lines;
            counts = counts_after s whole held.changed (length before.left_rows.items) (cells_of c.args.left.now) (cells_of c.args.right.now) c.args.self.now.counts.items _ frame.comparables first.cells second.cells old.counts c.count_changes-is_changed.ensures.counts;
          };
    }
