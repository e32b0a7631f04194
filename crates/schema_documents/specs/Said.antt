-- The schema of documents, printed as text or as JSON lines.
use Rattle.std.specs.Prelude.{◌≡◌, ℕ, Bool, List}
use Rattle.schema_paths.specs.Documents.{IsSchemaOfText}
use Rattle.schema_documents.specs.JsonLines.{schema_lines}
use Rattle.schema_documents.specs.Text.{schema_text}
use Rattle.schema_paths.specs.declared.read.DocumentSchema.{DocumentSchema}
use Rattle.schema_run.specs.declared.said.Form.{Form}
use Rattle.schema_run.specs.declared.said.Form.TheVariants as form

-- the schema of documents, under the name of their file
abbrev pub form_text : Form → List ℕ → DocumentSchema → List ℕ
form_text form.Text file s = schema_text file s
form_text form.Json file s = schema_lines s

-- the printed text has the schema of the documents of a text, whose other lines may be passed over
pub record SaysSchemaOf (text : List ℕ) (skip_bad : Bool) (f : Form) (file said : List ℕ) : Type 0
  where
    pub schema : DocumentSchema
    pub of_text : IsSchemaOfText text skip_bad schema
    pub is : said ≡ form_text f file schema
