use Rattle.std.proofs.Common.{◌≡◌, ◌++◌, subst, sym}
use Rattle.diff_json.proofs.Pieces.{piece}
use Rattle.diff_report.specs.Summary.{difference_count, rest_text}
use Rattle.diff_words.specs.declared.formats.Format.TheVariants.{Text}
use Rattle.document_report.specs.Forms.{end_text}
use Rattle.document_report.proofs.report.push_end.Goals as goal

pub returns-in_ok-push_skipped_lines-in-Text : goal.returns-in_ok-push_skipped_lines-in-Text
returns-in_ok-push_skipped_lines-in-Text c =
    let s = c.args.sides.now in
    let m = c.args.matching.now in
    let old = c.args.out.now.items in
    let rest : c.push_rest.new.out.items ≡ old ++ rest_text c.args.limit (difference_count m c.args.changed) = rw (← c.difference_count.ensures) c.in_ok-push_rest-in-Text.ensures in
    let all : c.push_skipped_lines.new.out.items ≡ old ++ end_text Text s m c.args.changed c.args.limit =
    piece old _ _ _ _ (piece old _ _ _ _ rest c.in_ok-push_summary-in-Text.ensures) c.in_ok-push_skipped_lines-in-Text.ensures in
    subst (λ f. c.push_skipped_lines.new.out.items ≡ old ++ end_text f s m c.args.changed c.args.limit) (sym c.in-Text.is) all
