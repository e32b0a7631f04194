-- Two sides that are compared, and the result of comparing them.
use Rattle.std.specs.Prelude.{◌≡◌, ◌<◌, ℕ, List, true, All, length}
use Rattle.diff_keys.specs.Matching.{IsMatching}
use Rattle.diff_keys.specs.Rising.{ListsRising}
use Rattle.diff_keys.specs.Unique.{AllDiffer}
use Rattle.diff_report.specs.declared.sides.Side.{Side}
use Rattle.diff_keys.specs.declared.outcome.Outcome.{Outcome}
use Rattle.diff_tables.specs.Keys.{row_keys}
use Rattle.document_rows.specs.Tables.{HaveDocuments, IsOtherDocument}
use Rattle.document_report.specs.Forms.{format_text}
use Rattle.document_run.specs.Run.{key_columns, outcome_of, paths_of, rules_of}
use Rattle.document_run.specs.declared.found.Found.{Found}
use Rattle.document_run.specs.declared.options.DocumentOptions.{DocumentOptions}
use Rattle.document_words.specs.declared.sides.DocumentSides.{DocumentSides}

-- a side has some documents
abbrev pub HasDocuments : DocumentOptions → Side → Type 0
HasDocuments options side =
    HaveDocuments options.reading (paths_of options) side.table side.lines.items

-- both sides have documents, and a name for each key
pub record AreComparable (options : DocumentOptions) (s : DocumentSides) : Type 0 where
  pub left : HasDocuments options s.left
  pub right : HasDocuments options s.right
  pub keys : length s.keys.items ≡ length options.keys.now

-- a table has these columns, and a line number for each row
pub record IsKeyed (columns : List ℕ) (side : Side) : Type 0 where
  pub columns_within : All (λ c. c < side.table.width) columns
  pub lines : length side.lines.items ≡ length side.table.rows

-- no key comes twice on either side
abbrev pub HaveUniqueRows : List ℕ → DocumentSides → Type 0
HaveUniqueRows columns s = AllDiffer (row_keys columns s.left.table.rows)
    × AllDiffer (row_keys columns s.right.table.rows)

-- partners have the same key, and those between whose documents a difference is reported are
-- changed
pub record IsFoundOn (options : DocumentOptions) (s : DocumentSides) (f : Found) : Type 0 where
  pub matched :
      IsMatching (row_keys (key_columns options) s.left.table.rows)
      (row_keys (key_columns options) s.right.table.rows) f.matching
  pub changed :
      ListsRising
      (IsOtherDocument (rules_of options) s.left.table s.right.table f.matching.left_rows.items
      f.matching.right_rows.items) (length f.matching.left_rows.items) f.changed.items
  pub unique : options.unique ≡ true → HaveUniqueRows (key_columns options) s

-- the report of two sides, and its outcome
pub record IsReportOn (options : DocumentOptions) (s : DocumentSides) (written : List ℕ)
    (outcome : Outcome) : Type 0 where
  pub found : Found
  pub found_on : IsFoundOn options s found
  pub text : written ≡ format_text options.format s found.matching found.changed.items options.limit
  pub outcome_is : outcome ≡ outcome_of found.matching found.changed.items
