-- Differences between the paths of two files of documents.
--
-- ~ path items[].price  number -> number, text
-- ! path tags[] only in old.ndjson
-- 1 changed, 1 removed, 0 added, 6 the same.
use Rattle.std.specs.List.{flat_map}
use Rattle.std.specs.Prelude.{◌≡◌, ◌==◌, ℕ, Bool, true, false, if◌then◌else◌, List, [], ◌∷◌, ◌++◌}
use Rattle.std.specs.Prelude.{length, codes}
use Rattle.diff_columns.specs.Errors.{word_of}
use Rattle.diff_columns.specs.declared.error.Side.{Side}
use Rattle.diff_json.specs.Strings.{json_string}
use Rattle.diff_words.specs.Words.{word_text}
use Rattle.document_words.specs.Skipped.{skipped_members, skipped_text}
use Rattle.json_plain.specs.Plain.{plain_json}
use Rattle.schema_paths.specs.Paths.{same_kinds}
use Rattle.schema_paths.specs.declared.paths.PathSchema.{PathSchema}
use Rattle.schema_paths.specs.declared.read.DocumentSchema.{DocumentSchema}
use Rattle.schema_report.specs.Changes.{changes_text, counts_of}
use Rattle.schema_report.specs.ColumnChanges.{counts_line, counts_members, file_on}
use Rattle.schema_report.specs.declared.files.Files.{Files}

-- the text of a path
abbrev pub path_name : PathSchema → List ℕ
path_name s = s.path.items

-- the word for a kind, if there are values of it
abbrev pub word_if : ℕ → List ℕ → List (List ℕ)
word_if count word = if count == 0 then [] else word ∷ []

-- the words for the kinds of the values at a path; there is at least one
unfoldable pub kind_words : PathSchema → List (List ℕ)
kind_words s = word_if s.nulls (codes "null") ++ word_if s.truths (codes "truth value")
    ++ word_if s.numbers (codes "number") ++ word_if s.texts (codes "text")
    ++ word_if s.objects (codes "object") ++ word_if s.arrays (codes "array")

-- words with a text between them
abbrev pub joined : List ℕ → List (List ℕ) → List ℕ
joined between [] = []
joined between (word ∷ more) = word ++ flat_map (λ next. between ++ next) more

-- there are words
abbrev pub has_words : List (List ℕ) → Bool
has_words [] = false
has_words (word ∷ more) = true

-- words are written after a text, and it is known whether there are any
pub record AreJoined (between before : List ℕ) (words : List (List ℕ)) (text : List ℕ) (some : Bool)
    : Type 0 where
  pub text_is : text ≡ before ++ joined between words
  pub some_is : some ≡ has_words words

-- ---- as text

-- the line of a path that one file has alone
unfoldable pub alone_line : List ℕ → List ℕ → List ℕ
alone_line file path = codes "! path " ++ plain_json path ++ codes " only in " ++ word_text file
    ++ codes "\n"

-- the line of a path whose values have other kinds
unfoldable pub kinds_line : PathSchema → PathSchema → List ℕ
kinds_line s t = codes "~ path " ++ plain_json s.path.items ++ codes "  "
    ++ joined (codes ", ") (kind_words s) ++ codes " -> "
    ++ joined (codes ", ") (kind_words t) ++ codes "\n"

-- the lines of the paths of two files that differ, and of the counts
abbrev pub path_lines : Files → List PathSchema → List PathSchema → List ℕ
path_lines files left right =
    changes_text path_name same_kinds (λ side s. alone_line (file_on files side) s.path.items)
    kinds_line left right
    ++ counts_line (counts_of path_name same_kinds left right)

-- these lines, and how many lines of each file are passed over, if some are
abbrev pub document_lines : Files → DocumentSchema → DocumentSchema → List ℕ
document_lines files left right = path_lines files left.paths.items right.paths.items
    ++ skipped_text files.left.now left.skipped.items
    ++ skipped_text files.right.now right.skipped.items

-- ---- as JSON lines

-- the object of a path that one file has alone
unfoldable pub alone_object : Side → List ℕ → List ℕ
alone_object side path = codes "{\"kind\":\"path\",\"path\":" ++ json_string path
    ++ codes ",\"only_in\":\"" ++ word_of side ++ codes "\"}\n"

-- the object of a path whose values have other kinds
unfoldable pub kinds_object : PathSchema → PathSchema → List ℕ
kinds_object s t = codes "{\"kind\":\"type\",\"path\":" ++ json_string s.path.items
    ++ codes ",\"left\":[\"" ++ joined (codes "\",\"") (kind_words s)
    ++ codes "\"],\"right\":[\"" ++ joined (codes "\",\"") (kind_words t) ++ codes "\"]}\n"

-- the objects of the paths of two files that differ, and the beginning of the object of the counts
abbrev pub path_objects : List PathSchema → List PathSchema → List ℕ
path_objects left right =
    changes_text path_name same_kinds (λ side s. alone_object side s.path.items) kinds_object left
    right
    ++ counts_members (counts_of path_name same_kinds left right)

-- these objects; the last one says how many lines of each file are passed over, if lines may be
abbrev pub document_objects : DocumentSchema → DocumentSchema → List ℕ
document_objects left right = path_objects left.paths.items right.paths.items
    ++ skipped_members left.skip_bad (length left.skipped.items) (length right.skipped.items)
    ++ codes "}\n"
