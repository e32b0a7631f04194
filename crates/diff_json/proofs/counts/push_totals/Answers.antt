use Rattle.std.proofs.Common.{◌∙◌}
use Rattle.std.proofs.lemmas.List.{append_assoc}
use Rattle.std.specs.Fmt.{decimal}
use Rattle.std.specs.Prelude.{codes}
use Rattle.diff_json.specs.Counts.{totals_members}
use Rattle.diff_json.proofs.Pieces.{pieces}
use Rattle.diff_json.proofs.counts.push_totals.Goals as goal

pub returns : goal.returns
unfolding totals_members
returns c =
    let old = c.args.out.now.items in
    let first = c.in_ok-push_number.ensures ∙ append_assoc old (codes "\"changed\":") (decimal c.args.changed) in
    pieces old _ _ _ _ _ (pieces old _ _ _ _ _ (pieces old _ _ _ _ _ (pieces old _ _ _ _ _ first c.in_ok-push_number-2.ensures) c.in_ok-push_number-3.ensures) c.in_ok-push_number-4.ensures)
    c.in_ok-push_number-5.ensures
