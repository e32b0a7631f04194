-- Tables of documents.
--
-- With the key id the text of the lines {"id": 7} and {"id": 8, "n": 1} has the rows 7 {"id": 7}
-- and 8 {"id": 8, "n": 1}, whose lines are 1 and 2. Another text, of the line {"id": 8, "n": 2},
-- has another document for 8, and none where n is ignored. Where lines that are no documents are
-- passed over the text of the lines {"id": 7}, [8] and {"id": 9} has the rows 7 {"id": 7} and 9
-- {"id": 9}, whose lines are 1 and 3.
use Rattle.std.specs.Prelude.{◌≡◌, ◌≢◌, ◌-◌, ℕ, suc, All, List, [], get_or, length, map}
use Rattle.std.specs.Prelude.{slice_index}
use Rattle.diff_tables.specs.Tables.{TableRows}
use Rattle.json_changes.specs.Rules.{Rules, differences_told}
use Rattle.json_paths.specs.Paths.{Path}
use Rattle.document_rows.specs.Documents.{document_row, tree_of}
use Rattle.document_rows.specs.Lines.{lines_of}
use Rattle.document_rows.specs.Numbers.{AreNumbered, numbered_lines}
use Rattle.document_rows.specs.Parts.{IsWanted}
use Rattle.document_rows.specs.declared.reading.Reading.{Reading}

-- these lines are documents, and in the part if there is one; the table has a row for each of them
pub record AreRowsOf (reading : Reading) (keys : List Path) (lines : List (List ℕ))
    (t : TableRows) : Type 0 where
  pub documents : All (IsWanted reading keys) lines
  pub width : t.width ≡ suc (length keys)
  pub rows : t.rows ≡ map (document_row keys) lines

-- the table has a row for each of these lines that is a document, and in the part if there is one,
-- in their order; these are the numbers of the rows' lines, and of the lines that are passed over
pub record AreDocumentsWith (reading : Reading) (keys : List Path) (lines : List (List ℕ))
    (t : TableRows) (numbers skipped : List ℕ) : Type 0 where
  pub numbered : AreNumbered reading keys lines numbers skipped
  pub table : AreRowsOf reading keys (numbered_lines lines numbers) t

-- the table has a row for each line of a text that is a document, and in the part if there is one;
-- these are the numbers of the rows' lines, and of the lines that are passed over
abbrev pub AreDocumentsOf : List ℕ → Reading → List Path → TableRows → List ℕ → List ℕ → Type 0
AreDocumentsOf text reading keys t numbers skipped =
    AreDocumentsWith reading keys (lines_of text) t numbers skipped

-- the table has a row for each of some documents, and there is the same number of line numbers
pub record HaveDocuments (reading : Reading) (keys : List Path) (t : TableRows) (numbers : List ℕ) :
    Type 0 where
  pub all : List (List ℕ)
  pub table : AreRowsOf reading keys all t
  pub lines : length numbers ≡ length all

-- a table of documents
abbrev pub HoldsDocuments : TableRows → Type 0
HoldsDocuments t = (reading : Reading) × (keys : List Path) × (lines : List (List ℕ))
    × AreRowsOf reading keys lines t

-- the line that row i of a table of documents was read from, which is its last cell
abbrev pub line_at : TableRows → ℕ → List ℕ
line_at t i = get_or (get_or t.rows i []) (t.width - 1) []

-- at place k two lists of row numbers name documents, and a difference between these is reported
-- under rules
abbrev pub IsOtherDocument : Rules → TableRows → TableRows → List ℕ → List ℕ → ℕ → Type 0
IsOtherDocument rules left right left_rows right_rows k =
    differences_told rules (tree_of (line_at left (slice_index left_rows k)))
    (tree_of (line_at right (slice_index right_rows k))) ≢ []
