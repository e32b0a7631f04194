-- The differences between two documents.
--
-- items[2].price 9.5 -> 9.75
-- tags[1] "new" -> missing
-- In colours 9.5 and "new" are red, 9.75 and missing green.
-- In JSON they are {"path":"items[2].price","left":9.5,"right":9.75} and
-- {"path":"tags[1]","left":"new"}.
use Rattle.std.specs.Prelude.{ℕ, Bool, List, [], ◌∷◌, ◌++◌, Option, Some, None, codes}
use Rattle.diff_json.specs.Strings.{json_string}
use Rattle.diff_words.specs.Colors.{painted}
use Rattle.diff_words.specs.declared.colors.Color.TheVariants.{Red, Green}
use Rattle.json_plain.specs.Plain.{plain_json}

-- a part, or the word missing if there is none
unfoldable pub part_text : Option (List ℕ) → List ℕ
part_text (Some text) = plain_json text
part_text None = codes "missing"

-- the path, and the part on each side
unfoldable pub change_text : Bool → List ℕ → Option (List ℕ) → Option (List ℕ) → List ℕ
change_text colored path left right = plain_json path ++ 32 ∷ []
    ++ painted colored Red (part_text left) ++ codes " -> "
    ++ painted colored Green (part_text right)

-- a part as a further member with this name, or nothing if there is no part
unfoldable pub part_member : List ℕ → Option (List ℕ) → List ℕ
part_member name (Some text) = codes ",\"" ++ name ++ codes "\":" ++ plain_json text
part_member name None = []

-- the path and the parts, in JSON
unfoldable pub change_object : List ℕ → Option (List ℕ) → Option (List ℕ) → List ℕ
change_object path left right = codes "{\"path\":" ++ json_string path
    ++ part_member (codes "left") left ++ part_member (codes "right") right ++ 125 ∷ []
