use Rattle.std.proofs.Common.{rules, ◌≡◌, false, length}
use Rattle.std.specs.Prelude.{◌==◌}
use Rattle.diff_markdown.proofs.TextLemmas.{noted}
use Rattle.diff_markdown.proofs.counts.push_columns.Goals as goal

pub returns : goal.returns
returns c =
    let some : (length c.args.pairs.now == 0) ≡ false = search rules in
    noted (length c.args.pairs.now == 0) _ _ _ _ _ _ _ some c.in_ok-extend_from_slice.ensures.items c.in_ok-extend_from_slice-2.ensures.items c.in_ok-push.ensures.items
