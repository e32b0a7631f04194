-- Laws of reports of documents.
--
-- With no rules the report of {"id": 8, "n": 2} and {"n": 3, "id": 8.0} has a changed document, and
-- that of {"id": 8, "n": 2} and
-- {"n": 2.0, "id": 8.0} has none.
-- Of the text of the lines {"id": 7}, [8] and {"id": 9} a part may have the last one alone, on line
-- 3, and passes over line 2 as the
-- whole does.
use Rattle.std.specs.List.{filter, range_with_len}
use Rattle.std.specs.Prelude.{◌≡◌, ℕ, List, None, Some, length, slice_index}
use Rattle.diff_keys.specs.Rising.{ListsRising}
use Rattle.diff_keys.specs.declared.matching.Matching.{Matching}
use Rattle.diff_keys.specs.declared.outcome.Outcome.{Outcome}
use Rattle.diff_parts.specs.Parts.{PartNumber}
use Rattle.diff_parts.specs.Rows.{rows_in}
use Rattle.diff_tables.specs.Tables.{TableRows}
use Rattle.document_rows.specs.Documents.{tree_of}
use Rattle.document_rows.specs.Lines.{lines_of}
use Rattle.document_rows.specs.Numbers.{numbered_line}
use Rattle.document_rows.specs.Parts.{is_in}
use Rattle.document_rows.specs.Tables.{AreDocumentsOf}
use Rattle.document_rows.specs.declared.reading.Reading.{Reading}
use Rattle.document_run.specs.Run.{IsDocumentReportOf, left_documents, right_documents, rules_of}
use Rattle.document_run.specs.Run.{tree_at}
use Rattle.document_run.specs.declared.options.DocumentOptions.{DocumentOptions}
use Rattle.json_changes.specs.Rules.{no_rules}
use Rattle.json_normal.specs.Same.{AreSame}
use Rattle.json_paths.specs.Paths.{Path}

-- the documents at place k of two lists of places among documents are not the same
abbrev pub AreNotSame : List (List ℕ) → List (List ℕ) → Matching → ℕ → Type 0
AreNotSame left right m k =
    ¬ AreSame (tree_at left (slice_index m.left_rows.items k))
    (tree_at right (slice_index m.right_rows.items k))

-- with no rules, the partners that are changed in a report are those whose documents are not the
-- same
abbrev pub ChangedAreNotSame : Type 0
ChangedAreNotSame =
    (options : DocumentOptions) (left_text right_text left_name right_name written : List ℕ)
    (outcome : Outcome) → rules_of options ≡ no_rules
    → (r : IsDocumentReportOf options left_text right_text left_name right_name written outcome)
    → ListsRising
    (AreNotSame (left_documents left_text r.sides) (right_documents right_text r.sides)
    r.matching) (length r.matching.left_rows.items) r.changed

-- the documents of a part of a text are those of the whole text whose rows are in the part, in
-- their order and with their numbers; the same lines are passed over
abbrev pub KeepsDocuments : Type 0
KeepsDocuments =
    (text : List ℕ) (whole some : Reading) (part : PartNumber) (keys : List Path) (t u : TableRows)
    (numbers kept skipped others : List ℕ)
    → whole.part ≡ None → some.part ≡ Some part → whole.null_keys ≡ some.null_keys
    → AreDocumentsOf text whole keys t numbers skipped
    → AreDocumentsOf text some keys u kept others
    → (kept ≡ filter
    (λ n. is_in (Some part) keys (tree_of (numbered_line (lines_of text) n))) numbers)
    × (u.rows ≡ rows_in (Some part) (range_with_len 0 (length keys)) t.rows) × (others ≡ skipped)
