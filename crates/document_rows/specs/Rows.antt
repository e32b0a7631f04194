-- Rows of documents, as they are kept.
--
-- With the key id the lines {"id": 7} and {"id": 8} are kept as the cells 7, {"id": 7}, 8, {"id":
-- 8} and the numbers 1 and 2.
use Rattle.std.specs.List.{flat_map}
use Rattle.std.specs.Prelude.{◌≡◌, ℕ, All, List, Option, Some}
use Rattle.diff_tables.specs.Strings.{AreStrings}
use Rattle.json_paths.specs.Paths.{Path}
use Rattle.document_rows.specs.Documents.{document_row}
use Rattle.document_rows.specs.Lines.{lines_of}
use Rattle.document_rows.specs.Numbers.{AreNumbered, numbered_lines}
use Rattle.document_rows.specs.Parts.{IsWanted}
use Rattle.document_rows.specs.declared.cells.Rows.{Rows}
use Rattle.document_rows.specs.declared.reading.Reading.{Reading}

-- the documents of these lines are kept, each with its cells and its number, and so are the numbers
-- of the lines that are no documents; if there is a part, only its documents are kept
pub record HoldsRows (reading : Reading) (keys : List Path) (all : List (List ℕ)) (r : Rows) :
    Type 0 where
  pub numbered : AreNumbered reading keys all r.lines.items r.skipped.items
  pub documents : All (IsWanted reading keys) (numbered_lines all r.lines.items)
  pub cells : AreStrings r.cells (flat_map (document_row keys) (numbered_lines all r.lines.items))

-- lines are read to the end, and kept; if the reader's bytes are known, these are all their lines
pub record ReadsAll {R : Type 0} (remaining : R → Option (List ℕ)) (reading : Reading)
    (keys : List Path) (reader : R) (r : Rows) : Type 0 where
  pub lines : List (List ℕ)
  pub held : HoldsRows reading keys lines r
  pub all : (text : List ℕ) → remaining reader ≡ Some text → lines ≡ lines_of text
