-- Differences between the columns of two tables, as text and as JSON lines.
--
-- ~ column paid  truth value -> text
-- ! column note only in old.csv
-- 1 changed, 1 removed, 0 added, 3 the same.
use Rattle.std.specs.Fmt.{decimal}
use Rattle.std.specs.Prelude.{ℕ, Bool, List, ◌++◌, codes}
use Rattle.diff_columns.specs.declared.error.Side.{Side}
use Rattle.diff_columns.specs.declared.error.Side.TheVariants.{Left, Right}
use Rattle.diff_json.specs.Columns.{column_object}
use Rattle.diff_json.specs.Strings.{json_string}
use Rattle.diff_words.specs.Words.{word_text}
use Rattle.schema_columns.specs.Kinds.{same_kind}
use Rattle.schema_columns.specs.declared.column.ColumnSchema.{ColumnSchema}
use Rattle.schema_columns.specs.declared.kind.Kind.{Kind}
use Rattle.schema_report.specs.Changes.{changes_text, counts_of}
use Rattle.schema_report.specs.Words.{kind_word}
use Rattle.schema_report.specs.declared.changes.SchemaCounts.{SchemaCounts}
use Rattle.schema_report.specs.declared.files.Files.{Files}

-- the name of a column
abbrev pub column_name : ColumnSchema → List ℕ
column_name s = s.name.items

-- two columns are of the same kind
abbrev pub same_columns : ColumnSchema → ColumnSchema → Bool
same_columns s t = same_kind s.kind t.kind

-- the name of the file on a side
abbrev pub file_on : Files → Side → List ℕ
file_on files Left = files.left.now
file_on files Right = files.right.now

-- ---- as text

-- the line of a column that one file has alone
unfoldable pub alone_line : List ℕ → List ℕ → List ℕ
alone_line file name = codes "! column " ++ word_text name ++ codes " only in " ++ word_text file
    ++ codes "\n"

-- the line of a column whose kinds differ
unfoldable pub kind_line : List ℕ → Kind → Kind → List ℕ
kind_line name left right = codes "~ column " ++ word_text name ++ codes "  " ++ kind_word left
    ++ codes " -> " ++ kind_word right ++ codes "\n"

-- the line of the counts
unfoldable pub counts_line : SchemaCounts → List ℕ
counts_line c = decimal c.changed ++ codes " changed, " ++ decimal c.removed ++ codes " removed, "
    ++ decimal c.added ++ codes " added, " ++ decimal c.same ++ codes " the same.\n"

-- the lines of the columns of two files that differ, and of the counts
abbrev pub column_lines : Files → List ColumnSchema → List ColumnSchema → List ℕ
column_lines files left right =
    changes_text column_name same_columns (λ side s. alone_line (file_on files side) s.name.items)
    (λ s t. kind_line s.name.items s.kind t.kind) left right
    ++ counts_line (counts_of column_name same_columns left right)

-- ---- as JSON lines

-- the object of a column whose kinds differ
unfoldable pub kind_object : List ℕ → Kind → Kind → List ℕ
kind_object name left right =
    codes "{\"kind\":\"type\",\"column\":" ++ json_string name
    ++ codes ",\"left\":\"" ++ kind_word left ++ codes "\",\"right\":\"" ++ kind_word right
    ++ codes "\"}\n"

-- the members of the object of the counts
unfoldable pub counts_members : SchemaCounts → List ℕ
counts_members c =
    codes "{\"kind\":\"counts\",\"changed\":" ++ decimal c.changed ++ codes ",\"removed\":"
    ++ decimal c.removed ++ codes ",\"added\":" ++ decimal c.added ++ codes ",\"same\":"
    ++ decimal c.same

-- the objects of the columns of two files that differ, and of the counts
abbrev pub column_objects : List ColumnSchema → List ColumnSchema → List ℕ
column_objects left right =
    changes_text column_name same_columns (λ side s. column_object side s.name.items)
    (λ s t. kind_object s.name.items s.kind t.kind) left right
    ++ counts_members (counts_of column_name same_columns left right)
    ++ codes "}\n"
