-- The report of a comparison of documents.
--
-- ~ order.id="A-7"  items[2].price 9.5 -> 9.75, tags[1] "new" -> missing
-- - order.id="A-9"  a.ndjson line 12
-- .. and 1 more
-- 1 changed, 1 removed, 1 added, 5 the same.
-- Skipped 1 line of a.ndjson (line 7).
use Rattle.std.specs.List.{concat}
use Rattle.std.specs.Prelude.{ℕ, List, ◌++◌, length, map, take}
use Rattle.diff_keys.specs.declared.matching.Matching.{Matching}
use Rattle.diff_report.specs.Summary.{rest_text}
use Rattle.document_words.specs.Counts.{summary_text}
use Rattle.document_words.specs.Lines.{alone_line}
use Rattle.document_words.specs.Skipped.{skipped_lines}
use Rattle.document_words.specs.declared.sides.DocumentSides.{DocumentSides}
use Rattle.document_report.specs.Pairs.{changed_line}

-- the lines of all differences: changed documents in left order, then removed ones, then added ones
abbrev pub difference_lines : DocumentSides → Matching → List ℕ → List (List ℕ)
difference_lines s m changed = map (changed_line s m) changed
    ++ map (alone_line 45 s s.left) m.removed.items ++ map (alone_line 43 s s.right) m.added.items

-- the first lines, the number of the other ones, the summary, and the number of lines that are
-- passed over
unfoldable pub document_report_text : DocumentSides → Matching → List ℕ → ℕ → List ℕ
document_report_text s m changed limit = concat (take limit (difference_lines s m changed))
    ++ rest_text limit (length (difference_lines s m changed)) ++ summary_text m (length changed)
    ++ skipped_lines s
