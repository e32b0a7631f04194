-- The report of a comparison of documents, in the form that is asked for.
use Rattle.std.specs.Prelude.{ℕ, List, ◌++◌, length, map}
use Rattle.diff_keys.specs.declared.matching.Matching.{Matching}
use Rattle.diff_report.specs.Summary.{difference_count, rest_text}
use Rattle.diff_report.specs.declared.lines.Alone.TheVariants.{Removed, Added}
use Rattle.diff_words.specs.declared.formats.Format.{Format}
use Rattle.diff_words.specs.declared.formats.Format.TheVariants.{Text, Json}
use Rattle.document_words.specs.Counts.{counts_object, summary_text}
use Rattle.document_words.specs.Lines.{document_alone}
use Rattle.document_words.specs.Skipped.{skipped_lines}
use Rattle.document_words.specs.declared.sides.DocumentSides.{DocumentSides}
use Rattle.document_report.specs.Objects.{document_json_text}
use Rattle.document_report.specs.Pairs.{pair_at}
use Rattle.document_report.specs.Report.{document_report_text}

-- the lines of all differences: changed documents in left order, then removed ones, then added ones
abbrev pub all_lines : Format → DocumentSides → Matching → List ℕ → List (List ℕ)
all_lines format s m changed = map (pair_at format s m) changed
    ++ map (document_alone format Removed s s.left) m.removed.items
    ++ map (document_alone format Added s s.right) m.added.items

-- the text after the lines of differences, where this number of documents is changed: the number
-- of differences without a line, and the counts
abbrev pub end_text : Format → DocumentSides → Matching → ℕ → ℕ → List ℕ
end_text Text s m changed limit = rest_text limit (difference_count m changed)
    ++ summary_text m changed ++ skipped_lines s
end_text Json s m changed limit = counts_object s m changed limit

-- the report in a form
abbrev pub format_text : Format → DocumentSides → Matching → List ℕ → ℕ → List ℕ
format_text Text sides matching changed limit = document_report_text sides matching changed limit
format_text Json sides matching changed limit = document_json_text sides matching changed limit
