-- The lines of two documents that differ.
--
-- ~ order.id="A-7"  items[2].price 9.5 -> 9.75, tags[1] "new" -> missing
-- {"kind":"changed","key":{"order.id":"A-7"},"left_line":1,"right_line":4,
--  "changes":[{"path":"items[2].price","left":9.5,"right":9.75},{"path":"tags[1]","left":"new"}]}
-- In colours ~ order.id="A-7" is yellow.
use Rattle.std.specs.Fmt.{decimal}
use Rattle.std.specs.Prelude.{ℕ, Bool, false, List, [], ◌∷◌, ◌++◌, map, slice_index, codes}
use Rattle.diff_keys.specs.declared.matching.Matching.{Matching}
use Rattle.diff_report.specs.Sides.{row_of}
use Rattle.diff_words.specs.Colors.{painted}
use Rattle.diff_words.specs.Lists.{listed}
use Rattle.diff_words.specs.declared.colors.Color.TheVariants.{Yellow}
use Rattle.diff_words.specs.declared.formats.Format.{Format}
use Rattle.diff_words.specs.declared.formats.Format.TheVariants.{Text, Json}
use Rattle.document_words.specs.Changes.{change_object, change_text}
use Rattle.document_words.specs.Keys.{document_name, key_members}
use Rattle.document_words.specs.Sides.{names_of}
use Rattle.document_words.specs.declared.sides.DocumentSides.{DocumentSides}
use Rattle.json_changes.specs.Texts.{Told}
use Rattle.document_report.specs.Documents.{changes_at}

-- a part that differs
abbrev pub change_in : Format → Bool → Told → List ℕ
change_in Text colored t = change_text colored t.path t.left t.right
change_in Json colored t = change_object t.path t.left t.right

-- the text between two of them
abbrev pub separator_in : Format → List ℕ
separator_in Text = codes ", "
separator_in Json = codes ","

-- the parts that differ, one after another
abbrev pub changes_in : Format → Bool → List Told → List ℕ
changes_in format colored changes =
    listed (separator_in format) (map (change_in format colored) changes)

-- a document of this name, and the parts that differ
unfoldable pub pair_text : Bool → List ℕ → List Told → List ℕ
pair_text colored name changes = painted colored Yellow (codes "~ " ++ name) ++ codes "  "
    ++ changes_in Text colored changes ++ 10 ∷ []

-- the line of the documents of left row i and right row j, which differ
unfoldable pub pair_line : DocumentSides → ℕ → ℕ → List ℕ
pair_line s i j =
    pair_text s.colored (document_name (names_of s) i (row_of s.left i)) (changes_at s i j)

-- two documents with these keys and line numbers, and the parts that differ, in JSON
unfoldable pub pair_json : List ℕ → ℕ → ℕ → List Told → List ℕ
pair_json keys left_line right_line changes = codes "{\"kind\":\"changed\",\"key\":{" ++ keys
    ++ codes "},\"left_line\":" ++ decimal left_line ++ codes ",\"right_line\":"
    ++ decimal right_line
    ++ codes ",\"changes\":[" ++ changes_in Json false changes ++ codes "]}\n"

-- the line of the documents of left row i and right row j, in JSON
unfoldable pub pair_object : DocumentSides → ℕ → ℕ → List ℕ
pair_object s i j =
    pair_json (key_members (names_of s) (row_of s.left i)) (slice_index s.left.lines.items i)
    (slice_index s.right.lines.items j) (changes_at s i j)

-- the line of the pair at place k of the matched rows
unfoldable pub changed_line : DocumentSides → Matching → ℕ → List ℕ
changed_line s m k =
    pair_line s (slice_index m.left_rows.items k) (slice_index m.right_rows.items k)

-- the line of the pair at place k of the matched rows, in JSON
unfoldable pub changed_object : DocumentSides → Matching → ℕ → List ℕ
changed_object s m k =
    pair_object s (slice_index m.left_rows.items k) (slice_index m.right_rows.items k)

-- the line of the pair at place k of the matched rows, in a form
abbrev pub pair_at : Format → DocumentSides → Matching → ℕ → List ℕ
pair_at Text = changed_line
pair_at Json = changed_object
