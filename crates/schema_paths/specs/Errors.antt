-- The errors of reading the schema of documents.
--
-- The lines {"id": 1} and [2] are not read where each line has to be a document, since the second
-- one is none. The line [2] alone is not read either where such lines are passed over.
use Rattle.std.specs.Prelude.{◌≡◌, ⊤, ℕ, Bool, true, List, []}
use Rattle.document_rows.specs.Errors.{IsReadFault}
use Rattle.document_rows.specs.Lines.{lines_of}
use Rattle.document_rows.specs.Numbers.{AreNumbered}
use Rattle.schema_paths.specs.Documents.{none_kept, whole}
use Rattle.schema_paths.specs.declared.error.SchemaError.{SchemaError}
use Rattle.schema_paths.specs.declared.error.SchemaError.TheVariants as error

-- an allocation failed
abbrev pub IsMemory : SchemaError → Type 0
IsMemory e = e ≡ error.Memory

-- the lines of a text that are no documents are passed over, and no line is a document
abbrev pub IsAllSkipped : List ℕ → Bool → Type 0
IsAllSkipped text skip_bad = (numbers skipped : List ℕ)
    × AreNumbered (whole skip_bad) [] (lines_of text) numbers skipped
    × (none_kept numbers skipped ≡ true)

-- the errors of reading a text: an allocation failed, the text is not read, or every line would be
-- passed over
abbrev pub IsSchemaFault : List ℕ → Bool → SchemaError → Type 0
IsSchemaFault text skip_bad error.Memory = ⊤
IsSchemaFault text skip_bad (error.Read cause) = IsReadFault text (whole skip_bad) [] cause
IsSchemaFault text skip_bad error.AllSkipped = IsAllSkipped text skip_bad
