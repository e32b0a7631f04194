-- The names of documents.
--
-- With the keys order.id and day the document {"order":{"id":"A-7"},"day":30} is named by
-- order.id="A-7",day=30, and in JSON by "order.id":"A-7","day":30. Without keys the second document
-- is named by row 2, and in JSON by no member.
use Rattle.std.specs.Fmt.{decimal}
use Rattle.std.specs.List.{range_with_len}
use Rattle.std.specs.Prelude.{ℕ, ◌+◌, ◌==◌, if◌then◌else◌, List, [], ◌∷◌, ◌++◌, length, map, get_or}
use Rattle.std.specs.Prelude.{codes}
use Rattle.diff_json.specs.Strings.{json_string}
use Rattle.diff_words.specs.Lists.{listed}
use Rattle.diff_words.specs.Words.{word_text}
use Rattle.document_words.specs.Numbers.{value_text}

-- the name of key k, and its value in a row
abbrev pub key_text : List (List ℕ) → List (List ℕ) → ℕ → List ℕ
key_text names cells k = word_text (get_or names k []) ++ 61 ∷ value_text (get_or cells k [])

-- the keys and their values in a row; without keys, the number of the row, the first being 1
unfoldable pub document_name : List (List ℕ) → ℕ → List (List ℕ) → List ℕ
document_name names i cells = if length names == 0 then codes "row "
    ++ decimal (i + 1) else listed (codes ",")
    (map (key_text names cells) (range_with_len 0 (length names)))

-- the name of key k and its value in a row, in JSON
abbrev pub key_member : List (List ℕ) → List (List ℕ) → ℕ → List ℕ
key_member names cells k = json_string (get_or names k []) ++ 58 ∷ value_text (get_or cells k [])

-- the keys and their values in a row, in JSON
abbrev pub key_members : List (List ℕ) → List (List ℕ) → List ℕ
key_members names cells =
    listed (codes ",") (map (key_member names cells) (range_with_len 0 (length names)))
