-- The schemas of paths as text.
--
-- The head of a file with a document and two paths is `one.ndjson: 1 document, 2 paths`.
use Rattle.std.specs.Fmt.{decimal}
use Rattle.std.specs.Prelude.{◌==◌, ℕ, if◌then◌else◌, List, ◌∷◌, ◌++◌, length, map, codes}
use Rattle.diff_words.specs.Words.{word_text}
use Rattle.document_words.specs.Skipped.{skipped_text}
use Rattle.schema_documents.specs.Grid.{header, row_of}
use Rattle.schema_paths.specs.declared.read.DocumentSchema.{DocumentSchema}
use Rattle.schema_report.specs.Aligned.{aligned}

-- what stands after the number of documents
abbrev pub documents_word : ℕ → List ℕ
documents_word count = if count == 1 then codes " document, " else codes " documents, "

-- what stands after the number of paths
abbrev pub paths_word : ℕ → List ℕ
paths_word count = if count == 1 then codes " path\n" else codes " paths\n"

-- how many documents a file has, and how many paths
unfoldable pub head_line : List ℕ → ℕ → ℕ → List ℕ
head_line file documents paths = word_text file ++ codes ": " ++ decimal documents
    ++ documents_word documents ++ decimal paths ++ paths_word paths

-- the schemas of the paths of a file, in a line each, below their headings; and then how many lines
-- are passed over, if some are
abbrev pub schema_text : List ℕ → DocumentSchema → List ℕ
schema_text file s = head_line file s.documents (length s.paths.items)
    ++ aligned 11 (header ∷ map row_of s.paths.items)
    ++ skipped_text file s.skipped.items
