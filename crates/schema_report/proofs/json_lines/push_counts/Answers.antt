use Rattle.std.proofs.Common.{◌∙◌}
use Rattle.std.proofs.lemmas.List.{append_assoc}
use Rattle.std.specs.Fmt.{decimal}
use Rattle.std.specs.Prelude.{codes}
use Rattle.schema_report.specs.JsonLines.{count_members}
use Rattle.schema_report.proofs.Pieces.{pieces}
use Rattle.schema_report.proofs.json_lines.push_counts.Goals as goal

pub returns : goal.returns
unfolding count_members
returns c =
    let old = c.args.out.now.items in
    let one = c.in_ok-push_number.ensures ∙ append_assoc old (codes "\",\"rows\":") (decimal c.args.column.now.rows) in
    let three = pieces old _ _ _ _ _ (pieces old _ _ _ _ _ one c.in_ok-push_number-2.ensures) c.in_ok-push_number-3.ensures in
    pieces old _ _ _ _ _ three c.in_ok-push_count.ensures
