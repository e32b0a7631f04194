use Rattle.std.proofs.Common.{◌≡◌, ◌∙◌, ◌-◌, ◌++◌, ap, arith}
use Rattle.std.specs.Prelude.{length}
use Rattle.diff_json.specs.Counts.{column_members, counts_object, difference_count, totals_of}
use Rattle.diff_json.proofs.Pieces.{piece}
use Rattle.diff_json.proofs.counts.push_counts.Goals as goal

pub returns : goal.returns
unfolding counts_object
returns c = λ n all names totals.
    let old = c.args.out.now.items in
    let differences = c.differences.ensures all totals in
    let not_shown : c.saturating_sub-not_shown.result ≡ difference_count all - c.args.limit = omega (arith, differences) in
    let changed = totals.changed in
    let removed = totals.removed in
    let added = totals.added in
    let same = totals.same in
    let written : c.push_totals.new.out.items ≡ c.extend_from_slice.new.self.items ++ totals_of all c.args.limit = rw (← not_shown, ← same, ← removed, ← added, ← changed) c.in_ok-push_totals.ensures in
    let columns : c.push_by_column.new.out.items ≡ c.extend_from_slice-2.new.self.items ++ column_members n.names c.args.counts.now = rw names c.in_ok-push_by_column.ensures in
    piece old _ _ _ _ (piece old _ _ _ _ (piece old _ _ _ _ (piece old _ _ _ _ c.in_ok-extend_from_slice.ensures.items written) c.in_ok-extend_from_slice-2.ensures.items)
    columns) c.in_ok-extend_from_slice-3.ensures.items
