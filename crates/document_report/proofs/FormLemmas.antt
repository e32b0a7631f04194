-- A report in the form that is asked for.
use Rattle.std.proofs.Common.{◌≡◌, ◌∙◌, ℕ, List, ◌++◌, length, take, ap, sym, refl}
use Rattle.std.proofs.lemmas.List.{append_assoc}
use Rattle.std.specs.List.{concat}
use Rattle.diff_keys.specs.declared.matching.Matching.{Matching}
use Rattle.diff_report.proofs.LineLemmas.{length_of_three}
use Rattle.diff_report.specs.Summary.{difference_count, rest_text}
use Rattle.diff_words.specs.declared.formats.Format.{Format}
use Rattle.diff_words.specs.declared.formats.Format.TheVariants.{Text, Json}
use Rattle.document_words.specs.Counts.{summary_text}
use Rattle.document_words.specs.Lines.{alone_line}
use Rattle.document_words.specs.Skipped.{skipped_lines}
use Rattle.document_words.specs.declared.sides.DocumentSides.{DocumentSides}
use Rattle.document_report.specs.Forms.{all_lines, end_text, format_text}
use Rattle.document_report.specs.Objects.{document_json_text}
use Rattle.document_report.specs.Pairs.{changed_line}
use Rattle.document_report.specs.Report.{difference_lines, document_report_text}

-- four texts one after another
joined : (a b c d : List ℕ) → a ++ ((b ++ c) ++ d) ≡ ((a ++ b) ++ c) ++ d
joined a b c d = sym (ap (λ l. l ++ d) (append_assoc a b c) ∙ append_assoc a (b ++ c) d)

-- the first lines and what stands after them are the report
pub in_form : (format : Format) (s : DocumentSides) (m : Matching) (changed : List ℕ) (limit : ℕ)
    → concat (take limit (all_lines format s m changed)) ++ end_text format s m (length changed) limit ≡ format_text format s m changed limit
unfolding document_report_text document_json_text
in_form Text s m changed limit =
    let count : length (difference_lines s m changed) ≡ difference_count m (length changed) =
    length_of_three (changed_line s m) (alone_line 45 s s.left) (alone_line 43 s s.right) changed m.removed.items m.added.items in
    rw count (joined (concat (take limit (difference_lines s m changed))) (rest_text limit (difference_count m (length changed))) (summary_text m (length changed)) (skipped_lines s))
in_form Json s m changed limit = refl
