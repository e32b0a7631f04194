-- Schemas of the columns of a CSV text.
use Rattle.std.specs.Prelude.{◌≡◌, ◌<◌, ℕ, false, List, [], length, get_or, Option}
use Rattle.diff_csv.specs.Quotes.{ends_open}
use Rattle.diff_csv.specs.Records.{AreRecordsOf, HaveOneLength, data_rows, names_of}
use Rattle.diff_csv.specs.declared.options.CsvOptions.{CsvOptions}
use Rattle.schema_columns.specs.Columns.{IsSchemaOf}
use Rattle.schema_columns.specs.Present.{cells_of}
use Rattle.schema_columns.specs.declared.column.ColumnSchema.{ColumnSchema}
use Rattle.schema_run.specs.declared.read.TableSchema.{TableSchema}

-- the schemas of the columns of rows, under these names
pub record AreSchemasOf (null : Option (List ℕ)) (names : List (List ℕ))
    (rows : List (List (List ℕ))) (columns : List ColumnSchema) : Type 0 where
  pub many : length columns ≡ length names
  pub each : (c : ℕ) (d : ColumnSchema) → c < length names
      → IsSchemaOf (get_or names c []) null (cells_of c rows) (get_or columns c d)

-- the schemas of the columns of a text. Its records have one length, and no quote is open at its
-- end
pub record IsSchemaOfText (options : CsvOptions) (text : List ℕ) (null : Option (List ℕ))
    (s : TableSchema) : Type 0 where
  pub records : List (List (List ℕ))
  pub all : AreRecordsOf options text records
  pub one_length : HaveOneLength records
  pub closed : ends_open options text ≡ false
  pub rows : s.rows ≡ length (data_rows options.has_header records)
  pub columns :
      AreSchemasOf null (names_of options.has_header records) (data_rows options.has_header records)
      s.columns.items
