use Rattle.std.proofs.Common.{◌≡◌, ◌++◌, length, sym}
use Rattle.diff_json.proofs.Pieces.{piece}
use Rattle.diff_report.specs.Sides.{naming_of}
use Rattle.diff_report.specs.Summary.{difference_count, rest_text}
use Rattle.diff_run.specs.Lines.{end_text}
use Rattle.diff_run.proofs.lines.push_end.Goals as goal

pub returns-in_ok-push_summary-in-Text : goal.returns-in_ok-push_summary-in-Text
returns-in_ok-push_summary-in-Text c = λ s d names totals.
    let old = c.args.out.now.items in
    let count = c.differences.ensures d totals in
    let rest : c.push_rest.new.out.items ≡ old ++ rest_text c.args.limit (difference_count d.matching (length d.changed.items)) = rw (← count) c.in_ok-push_rest-in-Text.ensures in
    rw c.in-Text.is (piece old _ _ _ _ rest (c.in_ok-push_summary-in-Text.ensures (naming_of s) d names totals))
