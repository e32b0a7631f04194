use Rattle.std.proofs.Common.{◌∙◌}
use Rattle.std.proofs.lemmas.List.{append_assoc}
use Rattle.std.specs.Fmt.{decimal}
use Rattle.std.specs.Prelude.{codes}
use Rattle.schema_report.proofs.Pieces.{pieces}
use Rattle.schema_documents.specs.JsonLines.{kind_members}
use Rattle.schema_documents.proofs.json_lines.push_kinds.Goals as goal

pub returns : goal.returns
unfolding kind_members
returns c =
    let old = c.args.out.now.items in
    let one = c.in_ok-push_number.ensures ∙ append_assoc old (codes ",\"truth_value\":") (decimal c.args.path.now.truths) in
    let three = pieces old _ _ _ _ _ (pieces old _ _ _ _ _ one c.in_ok-push_number-2.ensures) c.in_ok-push_number-3.ensures in
    pieces old _ _ _ _ _ three c.in_ok-push_number-4.ensures
