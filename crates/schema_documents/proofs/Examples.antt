-- Worked examples of the definitions.
use Rattle.std.specs.Fmt.{digits}
use Rattle.std.specs.Prelude.{◌≡◌, ◌++◌, codes, refl, true}
use Rattle.diff_words.specs.Words.{word_text}
use Rattle.schema_documents.specs.Changes.{joined, word_if}
use Rattle.schema_documents.specs.JsonLines.{skipped_member}
use Rattle.schema_documents.specs.Text.{head_line}

-- a file with one document and two paths
one-document : head_line (codes "one.ndjson") 1 2 ≡ codes "one.ndjson: 1 document, 2 paths\n"
unfolding head_line word_text digits
one-document = refl

-- the words for two kinds, of three
two-kinds : joined (codes ", ") (word_if 0 (codes "null") ++ word_if 2 (codes "number") ++ word_if 1 (codes "text")) ≡ codes "number, text"
two-kinds = refl

-- two lines that are passed over
two-skipped : skipped_member true 2 ≡ codes ",\"skipped\":2"
unfolding digits
two-skipped = refl
