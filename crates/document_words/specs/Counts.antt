-- The counts of the documents that differ.
--
-- 1 changed, 1 removed, 1 added, 5 the same.
-- {"kind":"counts","changed":1,"removed":1,"added":1,"same":5,"not_shown":0}
-- {"kind":"counts","changed":1,"removed":1,"added":1,"same":5,"not_shown":0,
--  "left_skipped":2,"right_skipped":0}
use Rattle.std.specs.Fmt.{decimal}
use Rattle.std.specs.Prelude.{ℕ, ◌-◌, List, ◌++◌, length, codes}
use Rattle.diff_json.specs.Counts.{totals_members}
use Rattle.diff_keys.specs.declared.matching.Matching.{Matching}
use Rattle.diff_report.specs.Summary.{difference_count}
use Rattle.document_words.specs.Skipped.{skipped_members}
use Rattle.document_words.specs.declared.sides.DocumentSides.{DocumentSides}

-- the numbers of documents that are changed, removed, added, and the same
unfoldable pub totals_text : ℕ → ℕ → ℕ → ℕ → List ℕ
totals_text changed removed added same = decimal changed ++ codes " changed, " ++ decimal removed
    ++ codes " removed, " ++ decimal added ++ codes " added, " ++ decimal same
    ++ codes " the same.\n"

-- the last line, where this number of matched documents is changed
abbrev pub summary_text : Matching → ℕ → List ℕ
summary_text m changed =
    totals_text changed (length m.removed.items) (length m.added.items)
    (length m.left_rows.items - changed)

-- these numbers in JSON, with the number of differences without a line, and further members
unfoldable pub counts_json : ℕ → ℕ → ℕ → ℕ → ℕ → List ℕ → List ℕ
counts_json changed removed added same not_shown more = codes "{\"kind\":\"counts\","
    ++ totals_members changed removed added same not_shown ++ more ++ codes "}\n"

-- the line with the counts in JSON, where this number of matched documents is changed
unfoldable pub counts_object : DocumentSides → Matching → ℕ → ℕ → List ℕ
counts_object s m changed limit =
    counts_json changed (length m.removed.items) (length m.added.items)
    (length m.left_rows.items - changed) (difference_count m changed - limit)
    (skipped_members s.skip_bad (length s.left_skipped.items) (length s.right_skipped.items))
