-- Lines that rows of a table were read from.
--
-- With the key id the row 7 {"id": 7} was read from the line {"id": 7}. No other line has that row,
-- and the line has no other one: both its cells are a function of the line.
use Rattle.std.specs.Prelude.{◌≡◌, ℕ, List, Some, option_copied}
use Rattle.diff_tables.specs.Tables.{TableRows}
use Rattle.json_paths.specs.Paths.{Path}
use Rattle.document_rows.specs.Tables.{AreRowsOf}
use Rattle.document_rows.specs.declared.known.Known.{Known}
use Rattle.document_rows.specs.declared.reading.Reading.{Reading}

-- a table of documents that are read with these keys
abbrev pub HoldsDocumentsOf : Reading → List Path → TableRows → Type 0
HoldsDocumentsOf reading keys t = (lines : List (List ℕ)) × AreRowsOf reading keys lines t

-- the known lines are those of a table of documents
abbrev pub KnowsLines : Reading → List Path → Known → Type 0
KnowsLines reading keys k = (t : TableRows) → option_copied k.table ≡ Some t
    → HoldsDocumentsOf reading keys t
