-- A report in the form that is asked for.
use Rattle.std.proofs.Common.{◌≡◌, ℕ, List, ◌++◌, length, take, sym, refl}
use Rattle.std.proofs.lemmas.List.{append_assoc}
use Rattle.std.specs.List.{concat}
use Rattle.diff_json.specs.Report.{json_text}
use Rattle.diff_report.proofs.LineLemmas.{length_of_three}
use Rattle.diff_report.specs.Lines.{changed_line, side_line}
use Rattle.diff_report.specs.Report.{difference_lines, report_text}
use Rattle.diff_report.specs.Sides.{naming_of}
use Rattle.diff_report.specs.Summary.{difference_count, rest_text, summary_text}
use Rattle.diff_report.specs.declared.sides.Sides.{Sides}
use Rattle.diff_tables.specs.declared.compare.Comparison.{Comparison}
use Rattle.diff_words.specs.declared.formats.Format.{Format}
use Rattle.diff_words.specs.declared.formats.Format.TheVariants.{Text, Json}
use Rattle.diff_run.specs.Lines.{all_lines, end_text}
use Rattle.diff_run.specs.Run.{differences_text}

-- the first lines and what stands after them are the report
pub in_form : (format : Format) (s : Sides) (c : Comparison) (counts : List ℕ) (limit : ℕ) → concat (take limit (all_lines format s c)) ++ end_text format s c counts limit ≡ differences_text format s c counts limit
unfolding report_text json_text
in_form Text s c counts limit =
    let count : length (difference_lines s c) ≡ difference_count c.matching (length c.changed.items) =
    length_of_three (changed_line s c.matching) (side_line 45 (naming_of s) s.left) (side_line 43 (naming_of s) s.right) c.changed.items c.matching.removed.items c.matching.added.items in
    rw count (sym (append_assoc (concat (take limit (difference_lines s c))) (rest_text limit (difference_count c.matching (length c.changed.items))) (summary_text (naming_of s) c counts)))
in_form Json s c counts limit = refl
