-- The errors of comparing two inputs of documents.
--
-- With the key id the texts {"id": 7} and {"day": 7} are not compared, since line 1 of the right
-- one has no id. Where keys have to be unique, a text of the lines {"id": 7} and {"id": 7.0} is not
-- compared, since lines 1 and 2 have one key.
use Rattle.std.specs.Prelude.{◌≡◌, ◌≤◌, ◌^◌, ℕ, true, List, length, slice_index, ⊤}
use Rattle.diff_columns.specs.declared.error.Side.{Side}
use Rattle.diff_columns.specs.declared.error.Side.TheVariants.{Left, Right}
use Rattle.diff_keys.specs.Errors.{AreFew}
use Rattle.diff_keys.specs.Unique.{IsFirstTwice}
use Rattle.diff_keys.specs.declared.unique.Twice.{Twice}
use Rattle.diff_report.specs.declared.sides.Side.{Side as Table}
use Rattle.diff_run.specs.Faults.{text_on}
use Rattle.diff_tables.specs.Keys.{row_keys}
use Rattle.document_rows.specs.Errors.{IsReadFault}
use Rattle.document_rows.specs.Numbers.{AreDocumentNumbers}
use Rattle.document_run.specs.Run.{HasNoDocument, document_keys, documents_at, key_columns}
use Rattle.document_run.specs.Run.{paths_of}
use Rattle.document_run.specs.declared.error.DocumentError.{DocumentError}
use Rattle.document_run.specs.declared.error.DocumentError.TheVariants as error
use Rattle.document_run.specs.declared.options.DocumentOptions.{DocumentOptions}
use Rattle.document_words.specs.declared.sides.DocumentSides.{DocumentSides}

-- an allocation failed
abbrev pub IsMemory : DocumentError → Type 0
IsMemory e = e ≡ error.Memory

-- one of two texts has more than 2^32 documents
abbrev pub AreTooMany : List ℕ → List ℕ → Type 0
AreTooMany left right = ¬ ((length left ≤ 2 ^ 32) × (length right ≤ 2 ^ 32))

-- one of two texts has more than 2^32 documents, where each document is found by the number of its
-- line
abbrev pub HaveTooMany : DocumentOptions → List ℕ → List ℕ → Type 0
HaveTooMany options left_text right_text = (left : List ℕ) × (right : List ℕ)
    × AreDocumentNumbers left_text options.reading (paths_of options) left
    × AreDocumentNumbers right_text options.reading (paths_of options) right
    × AreTooMany left right

-- the documents on these two of some lines have the same key, and no two documents before the later
-- one do
abbrev pub AreFirstTwice : List (List ℕ) → List ℕ → ℕ → ℕ → Type 0
AreFirstTwice keys numbers first again = (t : Twice) × IsFirstTwice keys t
    × (first ≡ slice_index numbers t.first) × (again ≡ slice_index numbers t.again)

-- these two documents of a text have the same key, and no two documents before the later one do
abbrev pub HasTwice : DocumentOptions → List ℕ → ℕ → ℕ → Type 0
HasTwice options text first again = (numbers : List ℕ)
    × AreDocumentNumbers text options.reading (paths_of options) numbers
    × AreFirstTwice (document_keys options (documents_at text numbers)) numbers first again

-- the errors of comparing two texts: a line of one is no document; a text has lines, but no
-- document; there are too many documents; keys have to be unique, and two documents of a text have
-- the same one; or an allocation, a read or a write failed
abbrev pub IsDocumentFault : DocumentOptions → List ℕ → List ℕ → DocumentError → Type 0
IsDocumentFault options left_text right_text error.Memory = ⊤
IsDocumentFault options left_text right_text error.TooManyRows =
    HaveTooMany options left_text right_text
IsDocumentFault options left_text right_text (error.Read side cause) =
    IsReadFault (text_on side left_text right_text) options.reading (paths_of options) cause
IsDocumentFault options left_text right_text (error.AllSkipped side) =
    HasNoDocument options (text_on side left_text right_text)
IsDocumentFault options left_text right_text (error.KeyTwice side first again) =
    (options.unique ≡ true) × HasTwice options (text_on side left_text right_text) first again
IsDocumentFault options left_text right_text (error.Write cause) = ⊤

-- a write failed
abbrev pub IsWrite : DocumentError → Type 0
IsWrite error.Memory = ⊥
IsWrite error.TooManyRows = ⊥
IsWrite (error.Read side cause) = ⊥
IsWrite (error.AllSkipped side) = ⊥
IsWrite (error.KeyTwice side first again) = ⊥
IsWrite (error.Write cause) = ⊤

-- two documents of a side have the same key; these are their lines
abbrev pub HasKeyTwice : Table → List ℕ → ℕ → ℕ → Type 0
HasKeyTwice side columns first again =
    AreFirstTwice (row_keys columns side.table.rows) side.lines.items first again

-- two documents of this side have the same key, or an allocation failed
abbrev pub IsSideFault : Table → List ℕ → Side → DocumentError → Type 0
IsSideFault table columns side error.Memory = ⊤
IsSideFault table columns side error.TooManyRows = ⊥
IsSideFault table columns side (error.Read s cause) = ⊥
IsSideFault table columns side (error.AllSkipped s) = ⊥
IsSideFault table columns side (error.KeyTwice s first again) = (s ≡ side)
    × HasKeyTwice table columns first again
IsSideFault table columns side (error.Write cause) = ⊥

-- one of two sides
abbrev pub side_on : Side → DocumentSides → Table
side_on Left s = s.left
side_on Right s = s.right

-- a side has too many documents; keys have to be unique, and two documents of a side have the same
-- one; or an allocation failed
abbrev pub IsRowsFault : DocumentOptions → DocumentSides → DocumentError → Type 0
IsRowsFault options s error.Memory = ⊤
IsRowsFault options s error.TooManyRows =
    ¬ (AreFew (row_keys (key_columns options) s.left.table.rows)
    (row_keys (key_columns options) s.right.table.rows))
IsRowsFault options s (error.Read side cause) = ⊥
IsRowsFault options s (error.AllSkipped side) = ⊥
IsRowsFault options s (error.KeyTwice side first again) = (options.unique ≡ true)
    × HasKeyTwice (side_on side s) (key_columns options) first again
IsRowsFault options s (error.Write cause) = ⊥
