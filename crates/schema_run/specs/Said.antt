-- Schemas of the columns of a CSV text, printed as text or as JSON lines.
use Rattle.std.specs.Prelude.{◌≡◌, ℕ, List, Option}
use Rattle.diff_csv.specs.declared.options.CsvOptions.{CsvOptions}
use Rattle.schema_report.specs.JsonLines.{schema_lines}
use Rattle.schema_report.specs.Text.{schema_text}
use Rattle.schema_run.specs.Schemas.{IsSchemaOfText}
use Rattle.schema_run.specs.declared.read.TableSchema.{TableSchema}
use Rattle.schema_run.specs.declared.said.Form.{Form}
use Rattle.schema_run.specs.declared.said.Form.TheVariants as form

-- the schemas of a table's columns, under the name of its file
abbrev pub form_text : Form → List ℕ → TableSchema → List ℕ
form_text form.Text file s = schema_text file s.rows s.columns.items
form_text form.Json file s = schema_lines s.columns.items

-- the printed text has the schemas of the columns of a CSV text
pub record SaysSchemaOf (options : CsvOptions) (text : List ℕ) (null : Option (List ℕ)) (f : Form)
    (file said : List ℕ) : Type 0 where
  pub schema : TableSchema
  pub of_text : IsSchemaOfText options text null schema
  pub is : said ≡ form_text f file schema
