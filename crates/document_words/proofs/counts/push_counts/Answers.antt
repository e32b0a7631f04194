use Rattle.std.proofs.Common.{◌≡◌, ◌-◌, ◌++◌, arith}
use Rattle.std.specs.Prelude.{length}
use Rattle.diff_json.specs.Counts.{totals_members}
use Rattle.diff_json.proofs.Pieces.{piece}
use Rattle.diff_report.specs.Summary.{difference_count}
use Rattle.document_words.specs.Counts.{counts_json, counts_object}
use Rattle.document_words.proofs.counts.push_counts.Goals as goal

pub returns : goal.returns
unfolding counts_object counts_json
returns c =
    let old = c.args.out.now.items in
    let all = c.args.matching.now in
    let same : c.len.result - c.args.changed ≡ length all.left_rows.items - c.args.changed = omega arith in
    let removed : c.len-removed.result ≡ length all.removed.items = omega arith in
    let added : c.len-added.result ≡ length all.added.items = omega arith in
    let not_shown : c.saturating_sub-not_shown.result ≡ difference_count all c.args.changed - c.args.limit = omega arith in
    let totals : c.push_totals.new.out.items ≡ c.extend_from_slice.new.self.items ++ totals_members c.args.changed (length all.removed.items) (length all.added.items) (length all.left_rows.items - c.args.changed)
    (difference_count all c.args.changed - c.args.limit) = rw (← not_shown, ← same, ← removed, ← added) c.in_ok-push_totals.ensures in
    piece old _ _ _ _ (piece old _ _ _ _ (piece old _ _ _ _ c.in_ok-extend_from_slice.ensures.items totals) c.in_ok-push_skipped_members.ensures) c.in_ok-extend_from_slice-2.ensures.items
