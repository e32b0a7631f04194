use Rattle.std.proofs.Common.{◌∙◌}
use Rattle.std.proofs.lemmas.List.{append_assoc}
use Rattle.std.specs.Fmt.{decimal}
use Rattle.std.specs.Prelude.{codes}
use Rattle.schema_report.specs.ColumnChanges.{counts_members}
use Rattle.schema_report.proofs.Pieces.{pieces}
use Rattle.schema_report.proofs.changes_json.push_counts_members.Goals as goal

pub returns : goal.returns
unfolding counts_members
returns c =
    let old = c.args.out.now.items in
    let one = c.in_ok-push_number.ensures ∙ append_assoc old (codes "{\"kind\":\"counts\",\"changed\":") (decimal c.args.counts.changed) in
    let two = pieces old _ _ _ _ _ one c.in_ok-push_number-2.ensures in
    let three = pieces old _ _ _ _ _ two c.in_ok-push_number-3.ensures in
    pieces old _ _ _ _ _ three c.in_ok-push_number-4.ensures
