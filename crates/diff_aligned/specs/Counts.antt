-- The last lines of a report, and the lines of columns that only one file has.
--
-- {"kind":"counts","changed":1,"removed":2,"added":0,"same":5,"not_shown":7,"columns":{"city":1}}
-- is
-- .. and 7 more
-- 1 changed, 2 removed, 0 added, 5 the same.
-- By column: city=1
use Rattle.std.specs.Prelude.{ℕ, ◌==◌, if◌then◌else◌, List, [], ◌∷◌, ◌++◌, length, codes, Option}
use Rattle.std.specs.Prelude.{Some, None, option_and_then}
use Rattle.std.specs.Str.{bytes_eq}
use Rattle.json.specs.Find.{as_object, get}
use Rattle.json.specs.Json.{Json, Members, no_members, member}
use Rattle.diff_aligned.specs.Paragraphs.{paragraph}
use Rattle.diff_aligned.specs.Shown.{text_of}
use Rattle.diff_aligned.specs.Texts.{name_text, number_text, pair_text}
use Rattle.diff_lines.specs.Parts.{number_at, string_at}

-- a count and the text after it
abbrev pub count_word : List ℕ → List ℕ → Json → List ℕ
count_word name counted j = number_text name j ++ counted

-- the words that say how many differences the report leaves out, if it leaves out any
abbrev pub hidden_words : List ℕ → List (List ℕ)
hidden_words count =
    if bytes_eq count (codes "0") then [] else (codes ".. and " ++ text_of count ++ codes " more") ∷
    []

-- the words that say how many rows are of each kind
unfoldable pub kind_words : Json → List (List ℕ)
kind_words j =
    count_word (codes "changed") (codes " changed,") j ∷ count_word (codes "removed")
    (codes " removed,") j ∷ count_word (codes "added") (codes " added,") j
    ∷ count_word (codes "same") (codes " the same.") j ∷ []

-- the members of an object, each a word
abbrev pub pair_words : Members → List (List ℕ)
pair_words no_members = []
pair_words (member name j rest) = pair_text name j ∷ pair_words rest

-- the words that say how many cells differ in each column, if any does
abbrev pub column_words : Option Members → List (List ℕ)
column_words None = []
column_words (Some no_members) = []
column_words (Some (member name j rest)) = codes "By column:" ∷ pair_words (member name j rest)

-- the words that say how many lines of each file are passed over
abbrev pub skipped_counts : Json → List (List ℕ)
skipped_counts j =
    codes "Skipped lines:" ∷ count_word (codes "left_skipped") (codes " left,") j ∷ count_word
    (codes "right_skipped") (codes " right.") j ∷ []

-- the words for the lines that are passed over, if the report has these counts
unfoldable pub skipped_words : Json → List (List ℕ)
skipped_words j = if length (number_at (codes "left_skipped") j) == 0 then [] else skipped_counts j

-- the lines of the counts
unfoldable pub counts_lines : ℕ → Json → List (List ℕ)
counts_lines n j =
    paragraph n (hidden_words (number_at (codes "not_shown") j)) ++ paragraph n (kind_words j)
    ++ paragraph n (column_words (option_and_then as_object (get (codes "columns") j)))
    ++ paragraph n (skipped_words j)

-- the name of the only file that has a column
abbrev pub file_with : List ℕ → List ℕ → List ℕ → List ℕ
file_with left right only_in = if bytes_eq only_in (codes "left") then left else right

-- the lines of a column that only one file has
unfoldable pub column_lines : ℕ → List ℕ → List ℕ → Json → List (List ℕ)
column_lines n left right j =
    paragraph n (codes "! column" ∷ name_text (string_at (codes "column") j) ∷ codes "only in" ∷
    name_text (file_with left right (string_at (codes "only_in") j)) ∷ [])
