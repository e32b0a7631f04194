use Rattle.std.proofs.Common.{◌≡◌, ◌∙◌, ◌++◌, length, take, ap}
use Rattle.std.proofs.lemmas.List.{append_assoc}
use Rattle.std.specs.List.{concat}
use Rattle.document_report.specs.Forms.{all_lines, end_text}
use Rattle.document_report.proofs.FormLemmas.{in_form}
use Rattle.document_report.proofs.report.push_document_report.Goals as goal

pub returns : goal.returns
returns c =
    let s = c.args.sides.now in
    let m = c.args.matching.now in
    let places = c.args.changed.now in
    let old = c.args.out.now.items in
    let format = c.args.format in
    let limit = c.args.limit in
    let ended : c.push_end.new.out.items ≡ c.push_lines.new.out.items ++ end_text format s m (length places) limit = c.in_ok-push_end.ensures in
    ended
    ∙ (ap (λ l. l ++ end_text format s m (length places) limit) c.in_ok-push_lines.ensures
    ∙ (append_assoc old (concat (take limit (all_lines format s m places))) (end_text format s m (length places) limit) ∙ ap (λ l. old ++ l) (in_form format s m places limit)))
