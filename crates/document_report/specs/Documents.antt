-- The documents whose differences a report has.
--
-- Between the lines {"n": 1, "tag": "a"} and {"tag": "b", "n": 1.0} the differences are tag with
-- "a" and "b", and none is reported where tag is ignored.
use Rattle.std.specs.Prelude.{ℕ, List, map}
use Rattle.document_rows.specs.Documents.{tree_of}
use Rattle.document_rows.specs.Tables.{HoldsDocuments, line_at}
use Rattle.document_words.specs.declared.sides.DocumentSides.{DocumentSides}
use Rattle.json.specs.Json.{Json}
use Rattle.json.specs.Strict.{HasUniqueKeys}
use Rattle.json.specs.Tree.{HasNumbers}
use Rattle.json_changes.specs.Rules.{Rules, differences_told}
use Rattle.json_changes.specs.Texts.{Told, rules_view, told}
use Rattle.json_normal.specs.Narrow.{HasNarrowNumbers}

-- the tree of a document: no object has a name twice, no number has a wide exponent, and the text
-- of each number is a number
pub record IsTree (j : Json) : Type 0 where
  pub unique : HasUniqueKeys j
  pub narrow : HasNarrowNumbers j
  pub numbers : HasNumbers j

-- both files hold documents
pub record HoldDocuments (s : DocumentSides) : Type 0 where
  pub left : HoldsDocuments s.left.table
  pub right : HoldsDocuments s.right.table

-- the texts of the differences that are reported under rules between the documents of two lines
abbrev pub changes_between : Rules → List ℕ → List ℕ → List Told
changes_between rules left right = map told (differences_told rules (tree_of left) (tree_of right))

-- the texts of the differences that are reported between the documents of left row i and right row
-- j
abbrev pub changes_at : DocumentSides → ℕ → ℕ → List Told
changes_at s i j =
    changes_between (rules_view s.rules.now) (line_at s.left.table i) (line_at s.right.table j)
