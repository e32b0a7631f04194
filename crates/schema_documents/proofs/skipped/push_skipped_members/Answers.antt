use Rattle.std.proofs.Common.{◌≡◌, ◌++◌, ◌∙◌, true, rules, subst, sym}
use Rattle.std.proofs.lemmas.List.{append_assoc}
use Rattle.std.specs.Fmt.{decimal}
use Rattle.std.specs.Prelude.{codes}
use Rattle.document_words.specs.Skipped.{skipped_members}
use Rattle.schema_report.proofs.Pieces.{pieces}
use Rattle.schema_documents.proofs.skipped.push_skipped_members.Goals as goal

pub returns : goal.returns
unfolding skipped_members
returns c =
    let old = c.args.out.now.items in
    let told : c.args.skip_bad ≡ true = search rules in
    let one = c.in_ok-push_number.ensures ∙ append_assoc old (codes ",\"left_skipped\":") (decimal c.args.left) in
    subst (λ b. c.push_number-2.new.out.items ≡ old ++ skipped_members b c.args.left c.args.right) (sym told) (pieces old _ _ _ _ _ one c.in_ok-push_number-2.ensures)
