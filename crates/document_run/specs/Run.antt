-- The report of two texts of documents.
--
-- With the key id the texts {"id": 7}, {"id": 8, "n": 2} and {"n": 3, "id": 8.0} of two lines and
-- of one have the report
-- ~ id=8  n 2 -> 3
-- - id=7  old.ndjson line 1
-- 1 changed, 1 removed, 0 added, 0 the same.
-- Where n is ignored nothing is reported of 8, and the last line is 0 changed, 1 removed, 0 added,
-- 1 the same.
-- A line [] before the first one, where such lines are passed over, makes 7 stand on line 2, and a
-- last line more:
-- Skipped 1 line of old.ndjson (line 1).
use Rattle.std.specs.List.{range_with_len}
use Rattle.std.specs.Prelude.{◌≡◌, ◌≢◌, ℕ, true, All, List, []}
use Rattle.std.specs.Prelude.{None, get_or, length, map, slice_index}
use Rattle.diff_columns.specs.Names.{names_of}
use Rattle.diff_keys.specs.Matching.{IsMatching}
use Rattle.diff_keys.specs.Outcome as outcome
use Rattle.diff_keys.specs.Rising.{ListsRising}
use Rattle.diff_keys.specs.Unique.{AllDiffer}
use Rattle.diff_keys.specs.declared.matching.Matching.{Matching}
use Rattle.diff_report.specs.declared.sides.Side.{Side}
use Rattle.diff_keys.specs.declared.outcome.Outcome.{Outcome}
use Rattle.diff_tables.specs.Keys.{row_keys}
use Rattle.document_report.specs.Forms.{format_text}
use Rattle.document_rows.specs.Documents.{IsDocument, document_row, tree_of}
use Rattle.document_rows.specs.Lines.{lines_of}
use Rattle.document_rows.specs.Numbers.{numbered_lines}
use Rattle.document_rows.specs.Tables.{AreDocumentsOf}
use Rattle.document_run.specs.declared.options.DocumentOptions.{DocumentOptions}
use Rattle.document_words.specs.Sides as words
use Rattle.document_words.specs.declared.sides.DocumentSides.{DocumentSides}
use Rattle.json.specs.Json.{Json}
use Rattle.json_changes.specs.Rules.{Rules, differences_told}
use Rattle.json_changes.specs.Texts.{rules_view}
use Rattle.json_paths.specs.Paths.{Path}
use Rattle.json_paths.specs.Views.{paths_view}

-- the paths of the keys
abbrev pub paths_of : DocumentOptions → List Path
paths_of options = paths_view options.keys.now

-- the columns of the keys, which stand before the column of the line
abbrev pub key_columns : DocumentOptions → List ℕ
key_columns options = range_with_len 0 (length options.keys.now)

-- the lines of a text with these numbers
abbrev pub documents_at : List ℕ → List ℕ → List (List ℕ)
documents_at text numbers = numbered_lines (lines_of text) numbers

-- the documents of the left text
abbrev pub left_documents : List ℕ → DocumentSides → List (List ℕ)
left_documents text sides = documents_at text sides.left.lines.items

-- the documents of the right text
abbrev pub right_documents : List ℕ → DocumentSides → List (List ℕ)
right_documents text sides = documents_at text sides.right.lines.items

-- the key of each of some documents: the normal texts of the parts at the paths
abbrev pub document_keys : DocumentOptions → List (List ℕ) → List (List ℕ)
document_keys options documents =
    row_keys (key_columns options) (map (document_row (paths_of options)) documents)

-- the tree of document i of some, the first being 0
abbrev pub tree_at : List (List ℕ) → ℕ → Json
tree_at documents i = tree_of (get_or documents i [])

-- the rules that say which differences are reported
abbrev pub rules_of : DocumentOptions → Rules
rules_of options = rules_view options.rules.now

-- a difference is reported under rules between the documents at place k of two lists of places
-- among documents
abbrev pub HasOthers : Rules → List (List ℕ) → List (List ℕ) → Matching → ℕ → Type 0
HasOthers rules left right m k =
    differences_told rules (tree_at left (slice_index m.left_rows.items k))
    (tree_at right (slice_index m.right_rows.items k)) ≢ []

-- a side has the documents of a text, and the name of its input; these lines of the text are passed
-- over
pub record IsSideOf (options : DocumentOptions) (text name : List ℕ) (side : Side)
    (skipped : List ℕ) : Type 0 where
  pub named : side.name.items ≡ name
  pub documents :
      AreDocumentsOf text options.reading (paths_of options) side.table side.lines.items skipped

-- a text has lines, and none of them is a document
abbrev pub HasNoDocument : DocumentOptions → List ℕ → Type 0
HasNoDocument options text = (lines_of text ≢ [])
    × All (λ line. ¬ (IsDocument options.reading (paths_of options) line)) (lines_of text)

-- the sides have the documents of two texts, the numbers of the lines that are passed over, the
-- names of the keys, and the rules
pub record AreSidesOf (options : DocumentOptions)
    (left_text right_text left_name right_name : List ℕ) (sides : DocumentSides) : Type 0 where
  pub left : IsSideOf options left_text left_name sides.left sides.left_skipped.items
  pub right : IsSideOf options right_text right_name sides.right sides.right_skipped.items
  pub left_some : options.reading.part ≡ None → ¬ (HasNoDocument options left_text)
  pub right_some : options.reading.part ≡ None → ¬ (HasNoDocument options right_text)
  pub skip_bad : sides.skip_bad ≡ options.reading.skip_bad
  pub names : words.names_of sides ≡ names_of options.names.now
  pub colored : sides.colored ≡ options.colored
  pub rules : sides.rules.now ≡ options.rules.now

-- the outcome of a comparison
abbrev pub outcome_of : Matching → List ℕ → Outcome
outcome_of m changed = outcome.outcome_of m changed true

-- no key comes twice among the left documents, or among the right ones
abbrev pub HaveUniqueKeys : DocumentOptions → List (List ℕ) → List (List ℕ) → Type 0
HaveUniqueKeys options left right = AllDiffer (document_keys options left)
    × AllDiffer (document_keys options right)

-- the report of two texts, and its outcome; documents with the same key are partners, the first
-- with the first, and the partners between which a difference is reported are changed
pub record IsDocumentReportOf (options : DocumentOptions)
    (left_text right_text left_name right_name written : List ℕ) (outcome : Outcome) : Type 0 where
  pub sides : DocumentSides
  pub matching : Matching
  pub changed : List ℕ
  pub sides_are : AreSidesOf options left_text right_text left_name right_name sides
  pub matched :
      IsMatching (document_keys options (left_documents left_text sides))
      (document_keys options (right_documents right_text sides)) matching
  pub changed_are :
      ListsRising
      (HasOthers (rules_of options) (left_documents left_text sides)
      (right_documents right_text sides) matching) (length matching.left_rows.items) changed
  pub unique : options.unique ≡ true
      → HaveUniqueKeys options (left_documents left_text sides) (right_documents right_text sides)
  pub text : written ≡ format_text options.format sides matching changed options.limit
  pub outcome_is : outcome ≡ outcome_of matching changed
