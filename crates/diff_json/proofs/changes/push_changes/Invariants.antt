use Rattle.std.proofs.Common.{◌≡◌, ◌++◌, length, map}
use Rattle.std.specs.List.{filter, range_with_len}
use Rattle.std.specs.Prelude.{codes}
use Rattle.diff_words.specs.Lists.{listed}
use Rattle.diff_report.specs.Pairs.{is_apart}
use Rattle.diff_report.specs.Sides.{naming_of, row_of}
use Rattle.diff_json.specs.Changes.{change_member}
use Rattle.diff_json.proofs.changes.push_changes.Given as goal

abbrev pub invariant-loop-column : goal.invariant-loop-column
invariant-loop-column l =
    let left = row_of l.sides.left l.i in
    let right = row_of l.sides.right l.j in
    let apart = filter (is_apart l.sides l.i l.j) (range_with_len 0 l.column) in
    record {
      text : l.out.items ≡ l.fn.out.items ++ listed (codes ",") (map (change_member (naming_of l.sides) left right) apart);
      count : l.written ≡ length apart;
    }
