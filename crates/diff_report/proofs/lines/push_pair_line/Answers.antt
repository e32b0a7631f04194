use Rattle.diff_words.specs.Colors.{painted}
use Rattle.diff_report.proofs.Joins.{joined_pair}
use Rattle.diff_report.proofs.lines.push_pair_line.Goals as goal

pub returns : goal.returns
unfolding painted
returns c =
    joined_pair c.args.out.now.items _ _ _ _ _ _ _ _ _ _ _ _ _ _ c.in_ok-push_color.ensures c.in_ok-extend_from_slice.ensures.items c.in_ok-push_row.ensures c.in_ok-push_color-2.ensures
    c.in_ok-extend_from_slice-2.ensures.items c.in_ok-push_changes.ensures c.in_ok-push.ensures.items
