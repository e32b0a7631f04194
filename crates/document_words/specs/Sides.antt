-- Two files of documents, and row numbers that name their documents.
--
-- With the keys order.id and day a row has three cells: the normal texts of the two values, and the
-- line.
use Rattle.std.specs.Prelude.{◌≡◌, ◌<◌, ◌≤◌, ℕ, suc, List, All, length, map}
use Rattle.diff_keys.specs.declared.matching.Matching.{Matching}
use Rattle.diff_report.specs.declared.sides.Side.{Side}
use Rattle.diff_tables.specs.Comparison.{ArePairs}
use Rattle.document_words.specs.declared.sides.DocumentSides.{DocumentSides}

-- the names of the keys
abbrev pub names_of : DocumentSides → List (List ℕ)
names_of s = map (λ v. v.items) s.keys.items

-- a table has a cell for each of this number of keys and one for the line, and a line number for
-- each row
pub record IsDocumentSide (keys : ℕ) (side : Side) : Type 0 where
  pub width : side.table.width ≡ suc keys
  pub lines : length side.lines.items ≡ length side.table.rows

-- both tables have a cell for each key
pub record AreDocumentSides (s : DocumentSides) : Type 0 where
  pub left : IsDocumentSide (length s.keys.items) s.left
  pub right : IsDocumentSide (length s.keys.items) s.right

-- matched row numbers name rows of the tables, and these places are places among them
pub record NamesDocuments (s : DocumentSides) (m : Matching) (places : List ℕ) : Type 0 where
  pub pairs : ArePairs s.left.table.rows s.right.table.rows m.left_rows.items m.right_rows.items
  pub changed : All (λ k. k < length m.left_rows.items) places
  pub few : length places ≤ length m.left_rows.items
  pub removed : All (λ i. i < length s.left.table.rows) m.removed.items
  pub added : All (λ j. j < length s.right.table.rows) m.added.items
