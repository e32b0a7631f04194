-- The lines of documents that only one file has.
--
-- - order.id="A-9"  a.ndjson line 12
-- {"kind":"removed","key":{"order.id":"A-9"},"line":12}
-- In colours the first one is red, and that of an added document green.
use Rattle.std.specs.Fmt.{decimal}
use Rattle.std.specs.Prelude.{ℕ, List, [], ◌∷◌, ◌++◌, slice_index, codes}
use Rattle.diff_report.specs.Lines.{mark_color}
use Rattle.diff_report.specs.Sides.{row_of}
use Rattle.diff_report.specs.declared.lines.Alone.{Alone}
use Rattle.diff_report.specs.declared.lines.Alone.TheVariants.{Removed, Added}
use Rattle.diff_report.specs.declared.sides.Side.{Side}
use Rattle.diff_words.specs.Colors.{painted}
use Rattle.diff_words.specs.Words.{word_text}
use Rattle.diff_words.specs.declared.formats.Format.{Format}
use Rattle.diff_words.specs.declared.formats.Format.TheVariants.{Text, Json}
use Rattle.document_words.specs.Keys.{document_name, key_members}
use Rattle.document_words.specs.Sides.{names_of}
use Rattle.document_words.specs.declared.sides.DocumentSides.{DocumentSides}

-- a document with this name, with its file and its line number
unfoldable pub alone_text : ℕ → List ℕ → List ℕ → ℕ → List ℕ
alone_text mark name file line = mark ∷ 32 ∷ [] ++ name ++ codes "  " ++ word_text file
    ++ codes " line " ++ decimal line

-- the line of the document of row i of one side
unfoldable pub alone_line : ℕ → DocumentSides → Side → ℕ → List ℕ
alone_line mark s side i =
    painted s.colored (mark_color mark)
    (alone_text mark (document_name (names_of s) i (row_of side i)) side.name.items
    (slice_index side.lines.items i)) ++ 10 ∷ []

-- a document with these keys and its line number, in JSON
unfoldable pub alone_json : List ℕ → List ℕ → ℕ → List ℕ
alone_json kind keys line = codes "{\"kind\":\"" ++ kind ++ codes "\",\"key\":{" ++ keys
    ++ codes "},\"line\":" ++ decimal line ++ codes "}\n"

-- the line of the document of row i of one side, in JSON
unfoldable pub alone_object : List ℕ → DocumentSides → Side → ℕ → List ℕ
alone_object kind s side i =
    alone_json kind (key_members (names_of s) (row_of side i)) (slice_index side.lines.items i)

-- the line of the document of row i of one side, which has no partner, in a form
abbrev pub document_alone : Format → Alone → DocumentSides → Side → ℕ → List ℕ
document_alone Text Removed = alone_line 45
document_alone Text Added = alone_line 43
document_alone Json Removed = alone_object (codes "removed")
document_alone Json Added = alone_object (codes "added")
