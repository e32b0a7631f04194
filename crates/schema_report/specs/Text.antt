-- Columns as text.
--
-- The head of a file with a row and two columns is `one.csv: 1 row, 2 columns`.
use Rattle.std.specs.Fmt.{decimal}
use Rattle.std.specs.Prelude.{◌==◌, ℕ, if◌then◌else◌, List, ◌∷◌, ◌++◌, length, map, codes}
use Rattle.diff_words.specs.Words.{word_text}
use Rattle.schema_columns.specs.declared.column.ColumnSchema.{ColumnSchema}
use Rattle.schema_report.specs.Aligned.{aligned}
use Rattle.schema_report.specs.Grid.{header, row_of}

-- what stands after the number of rows
abbrev pub rows_word : ℕ → List ℕ
rows_word count = if count == 1 then codes " row, " else codes " rows, "

-- what stands after the number of columns
abbrev pub columns_word : ℕ → List ℕ
columns_word count = if count == 1 then codes " column\n" else codes " columns\n"

-- how many rows and columns a file has
unfoldable pub head_line : List ℕ → ℕ → ℕ → List ℕ
head_line file rows columns = word_text file ++ codes ": " ++ decimal rows ++ rows_word rows
    ++ decimal columns ++ columns_word columns

-- the properties of the columns of a file, in a line each, below their headings
abbrev pub schema_text : List ℕ → ℕ → List ColumnSchema → List ℕ
schema_text file rows columns = head_line file rows (length columns)
    ++ aligned 7 (header ∷ map row_of columns)
